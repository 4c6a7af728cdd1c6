use Rattle.std.proofs.Common.{refl, subst}
use Rattle.order_core.specs.declared.outcome.MarketOut.{MarketOut}
use Rattle.order_core.specs.Meets.{MeetsHandled}
use Rattle.order_core.specs.State.{OrderCoreState}
use Rattle.order_core.proofs.Turns.{handled-as, seen_by}
use Rattle.order_core.proofs.order_core.OrderCore.market_step.Goals as goal

pub returns-clause-meets : goal.returns-clause-meets
returns-clause-meets g c =
    let out : MarketOut = record { client = c.in_ok-turn.turn.client; bodies = c.in_ok-turn.turn.bodies } in
    subst (λ (old : OrderCoreState). MeetsHandled old c.args.port c.args.heard.now out
    (seen_by c.market.new.self c.drop_answered.new.asked)) c.self.view_is
    (handled-as (seen_by c.self.inside.ledger c.self.inside.asked)
    (seen_by c.market.new.self c.drop_answered.new.asked) c.args.port c.args.heard.now c.in_ok-turn.turn out
    c.market.new.self.now c.drop_answered.new.asked.messages
    c.in_ok-turn.ensures.meets c.in_ok-turn.ensures.changed refl refl refl refl c.drop_answered.ensures.left)
