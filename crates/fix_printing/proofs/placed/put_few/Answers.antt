use Rattle.std.proofs.Common.{arith, take, decimal}
use Rattle.fix_printing.proofs.Placing.{first-put, field-put}
use Rattle.fix_printing.proofs.placed.put_few.Goals as goal

pub returns-clause-written : goal.returns-clause-written
returns-clause-written c =
    let value = first-put c.put_tag-start.new.text c.put.new.text c.args.bytes.now c.put_tag-start.result c.args.count
    (omega (arith, c.requires.room, c.put_tag-start.ensures.end, c.put_tag-start.ensures.length))
    (omega (arith, c.requires.count, c.told-bytes)) c.put.ensures.written in
    field-put (take c.args.at c.args.text.now) _ _ _ (decimal c.args.tag)
    (take c.args.count c.args.bytes.now) c.put_tag-start.ensures.written value c.put-2.ensures.written
