use Rattle.std.proofs.Common.{◌≡◌, map, take}
use Rattle.gateway_run.specs.gate_law.Settings.{ClientSettings}
use Rattle.gateway_serve.proofs.naming.client_names.Given as goal

-- those of the clients so far
abbrev pub invariant-loop-client : goal.invariant-loop-client
invariant-loop-client l =
    map (λ v. v.items) l.names.items ≡ map (λ (c : ClientSettings). c.comp) (take l.client-index l.settings.clients)
