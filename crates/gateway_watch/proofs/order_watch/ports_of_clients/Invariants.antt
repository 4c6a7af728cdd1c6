use Rattle.std.proofs.Common.{◌≡◌, map, take}
use Rattle.gate_law.specs.Settings.{ClientSettings}
use Rattle.gateway_watch.proofs.order_watch.ports_of_clients.Given as goal

-- those of the clients so far
abbrev pub invariant-loop-client : goal.invariant-loop-client
invariant-loop-client l =
    l.ports.items ≡ map (λ (c : ClientSettings). c.terms.port) (take l.client-index l.settings.clients)
