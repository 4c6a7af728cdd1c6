use Rattle.std.proofs.Common.{refl, ◌∙◌}
use Rattle.to_market.proofs.Entering.{entering-in, verdict-in}
use Rattle.to_market.proofs.accepting.accept.Goals as goal

pub returns : goal.returns
returns g c = λ s is_used after verdict.
    entering-in s c.args.order_ids c.args.exec_ids c.args.sender.now c.args.table.now is_used c.args.order.now after
    c.args.enter c.in_ok-waiting.waiting _ c.in_ok-bodies.bodies.items c.in_ok-asks.asks.items
    (verdict-in s c.args.order_ids c.args.exec_ids c.args.sender.now c.args.table.now is_used c.args.order.now after
    ∙ verdict) c.requires.enter c.in_ok-waiting.ensures refl c.in_ok-bodies.ensures c.in_ok-asks.ensures.says
    c.in_ok-asks.ensures.few
