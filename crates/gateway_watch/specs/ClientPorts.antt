-- Which ports clients are on.
use Rattle.std.specs.Prelude.{ℕ, List, map}
use Rattle.gate_law.specs.Settings.{ClientSettings, Settings}

-- by the ports' numbers from 1, in the order of the clients
abbrev pub ports_of_clients : Settings → List ℕ
ports_of_clients s = map (λ (c : ClientSettings). c.terms.port) s.clients
