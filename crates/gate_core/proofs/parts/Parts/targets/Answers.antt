use Rattle.std.proofs.Common.{ℕ, List, Some, ap, sym, ◌∙◌}
use Rattle.gate_events.specs.Seen.{event_seen}
use Rattle.gate_events.specs.declared.event.Event.{Event}
use Rattle.gate_law.specs.Promises.{by_token}
use Rattle.gate_law.specs.Settings.{terms}
use Rattle.gate_core.specs.Targets.{client_for}
use Rattle.gate_core.proofs.parts.Parts.targets.Goals as goal

pub returns-in-PortPacket-clause-client : goal.returns-in-PortPacket-clause-client
returns-in-PortPacket-clause-client g c s v parts few =
    c.client_of.ensures (terms s) v.turns few parts.orders
    ∙ ap (λ (p : ℕ). by_token s p (Some c.as_slice.result.now) v) c.number.ensures.value
    ∙ ap (λ (payload : List ℕ). by_token s c.in-PortPacket.port (Some payload) v) c.as_slice.ensures.bytes
    ∙ ap (λ (e : Event). client_for s (event_seen e) v) (sym c.in-PortPacket.is)
