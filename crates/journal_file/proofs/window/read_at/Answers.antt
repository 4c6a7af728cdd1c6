use Rattle.std.proofs.Common.{arith, length-take-le}
use borrow.Rule.Slice.PartMut.{take_put}
use Rattle.journal_file.proofs.Filled.{in-place}
use Rattle.journal_file.proofs.window.read_at.Goals as goal

pub returns-clause-front : goal.returns-clause-front
returns-clause-front g c = take_put _ _ c.args.bytes.now _ (omega (arith, c.requires))

pub returns-clause-ok : goal.returns-clause-ok
returns-clause-ok g c =
    in-place _ _ c.read_again.result _ c.read_again.new.room _ c.args.at
    (length-take-le _ c.args.bytes.now (omega (arith, c.requires))) c.read_again.ensures.bound c.read_again.ensures.ok
