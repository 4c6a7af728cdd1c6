use Rattle.std.proofs.Common.{refl, subst, ◌∙◌, decimal}
use Rattle.outstanding.specs.order_law.History.{terms_of}
use Rattle.to_market.specs.PortsSeen.{port_seen}
use Rattle.order_core.specs.declared.outcome.CoreOut.{CoreOut}
use Rattle.order_core.specs.Meets.{MeetsClient}
use Rattle.order_core.specs.State.{OrderCoreState}
use Rattle.order_core.proofs.Turns.{kept-as, seen_by}
use Rattle.order_core.proofs.order_core.OrderCore.client_step.Goals as goal

pub returns-clause-meets : goal.returns-clause-meets
returns-clause-meets g c =
    let out : CoreOut = record { bodies = c.in_ok-turn.turn.bodies; sends = c.sent_now.result } in
    subst (λ (old : OrderCoreState). MeetsClient old c.args.client c.args.message.now (port_seen c.args.port) out
    (seen_by c.client.new.self c.push_reserved.new.self)) c.self.view_is
    (record {
      turn = c.in_ok-turn.turn;
      gives = c.in_ok-turn.ensures.meets;
      bodies = refl;
      sends = c.sent_now.ensures;
      kept = c.push_reserved.ensures.pushed
          ∙ kept-as c.reserve.new.self.messages c.self.inside.asked.messages c.port_of-its_port.result
          (terms_of c.self.inside.ledger.now.terms c.args.client).port
          (decimal c.in_ok-turn.turn.order_id) c.deref.result.now c.in_ok-turn.turn.asks.items
          c.in_ok-reserve.ensures.same c.port_of-its_port.ensures c.deref.ensures.value;
    })
