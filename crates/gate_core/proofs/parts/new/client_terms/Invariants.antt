use Rattle.std.proofs.Common.{◌≡◌, map, take}
use Rattle.gate_settings.specs.to_market.TermsSeen.{terms_seen}
use Rattle.gate_law.specs.Settings.{ClientSettings}
use Rattle.gate_core.proofs.parts.new.client_terms.Given as goal

-- those of the clients so far
abbrev pub invariant-loop-client : goal.invariant-loop-client
invariant-loop-client l = map terms_seen l.all.items
    ≡ map (λ (c : ClientSettings). c.terms) (take l.client-index l.client-items)
