use Rattle.std.proofs.Common.{◌++◌, ◌∷◌, [], take, decimal}
use Rattle.fix_printing.proofs.Placing.{number-put}
use Rattle.fix_printing.proofs.placed.put_number.Goals as goal

pub returns-then-number-lt1000-clause-written : goal.returns-then-number-lt1000-clause-written
returns-then-number-lt1000-clause-written c =
    number-put (take c.args.at c.args.text.now) _ _ (decimal c.args.tag)
    (decimal c.args.number ++ 1 ∷ []) c.put_tag-start.ensures.written c.put_short.ensures.written

pub returns-clause-written : goal.returns-clause-written
returns-clause-written c =
    number-put (take c.args.at c.args.text.now) _ _ (decimal c.args.tag)
    (decimal c.args.number ++ 1 ∷ []) c.put_tag-start.ensures.written c.put_large.ensures.written
