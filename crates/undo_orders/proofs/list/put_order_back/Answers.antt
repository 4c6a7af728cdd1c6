use Rattle.std.proofs.Common.{sym, ap, ◌∙◌, arith}
use Rattle.orders.specs.PutBack.{put_back}
use Rattle.undo_orders.proofs.Putting.{none-back, one-back}
use Rattle.undo_orders.proofs.list.put_order_back.Goals as goal

pub returns-then-was-len-clause-back : goal.returns-then-was-len-clause-back
returns-then-was-len-clause-back c =
    one-back c.args.was c.args.orders.now.items c.put_back.new.self c.index_mut.result.now
    (omega (arith, c.if-was-len.true, c.len.ensures))
    (c.put_back.ensures ∙ ap (put_back c.args.was.earlier) c.index_mut.ensures.value)

pub returns-else-was-len-clause-back : goal.returns-else-was-len-clause-back
returns-else-was-len-clause-back c = sym (none-back c.args.was c.args.orders.now.items
    (omega (arith, c.if-was-len.false, c.len.ensures)))
