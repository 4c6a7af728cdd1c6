use Rattle.std.proofs.Common.{◌∷◌, ◌<◌, ◌^◌, List, arith, length, subst, Result}
use Rattle.market_messages.specs.ouch_codec.declared.outbound.Outbound.{Outbound}
use Rattle.market_messages.specs.ouch_codec.declared.refusal.DecodeRefusal.{DecodeRefusal}
use Rattle.market_messages.specs.ouch_codec.Values.{decoded}
use Rattle.outstanding.specs.order_law.History.{OrderHistory, Terms, OrderTurn}
use Rattle.order_machine.specs.Runs.{NumbersLeft}
use Rattle.order_machine.proofs.Running.{headline-of}
use Rattle.outstanding.proofs.InTurns.{market-turns, quiet-turns}
use Rattle.order_core.specs.State.{IsAfterTurns}
use Rattle.order_core.specs.Turns.{OfCall}
use Rattle.order_core.proofs.Turns.{OfTurn-weaker, market-after, parts-of}
use Rattle.order_core.proofs.order_core.OrderCore.market.Goals as goal

pub returns-clause-after : goal.returns-clause-after
returns-clause-after g c =
    subst (λ (heard : Result Outbound DecodeRefusal). OfCall c.args.port heard c.market_step.result
    (λ (t : OrderTurn). (terms : List Terms) (before : OrderHistory) → NumbersLeft before
    → IsAfterTurns terms before c.args.self.now → IsAfterTurns terms (t ∷ before) c.market_step.new.self))
    c.decode.ensures
    (market-after c.args.self.now c.args.port c.decode.result c.market_step.result c.market_step.new.self
    market-turns quiet-turns
    c.market_step.ensures.meets c.market_step.ensures.err)

pub returns-clause-headline : goal.returns-clause-headline
returns-clause-headline g c =
    OfTurn-weaker c.args.port (decoded c.args.payload.now) c.market_step.result _ _
    (λ turn leads terms before short after. headline-of terms _ c.market_step.new.self.table (omega (arith, short))
    (parts-of terms _ c.market_step.new.self (leads terms before short after)).0)
    (returns-clause-after g c)
