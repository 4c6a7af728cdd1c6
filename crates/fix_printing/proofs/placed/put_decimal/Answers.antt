use Rattle.std.proofs.Common.{arith, take, decimal}
use Rattle.fix_printing.proofs.Placing.{first-put, decimal-put}
use Rattle.fix_printing.proofs.placed.put_decimal.Goals as goal

pub returns-clause-written : goal.returns-clause-written
returns-clause-written c =
    let some = first-put c.put_digits-end.new.text c.put.new.text c.args.fraction.now c.put_digits-end.result
    c.args.count (omega (
      arith,
      c.requires.room,
      c.put_tag-start.ensures.end,
      c.put_digits-end.ensures.end,
      c.put_tag-start.ensures.length,
      c.put_digits-end.ensures.length,
    ))
    (omega (arith, c.requires.count, c.told-fraction)) c.put.ensures.written in
    decimal-put (take c.args.at c.args.text.now) _ _ _ _ (decimal c.args.tag) (decimal c.args.whole)
    (take c.args.count c.args.fraction.now) c.put_tag-start.ensures.written c.put_digits-end.ensures.written some
    c.put-2.ensures.written
