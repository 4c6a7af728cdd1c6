-- What a day's clients are called where it is shown.
use Rattle.std.specs.Prelude.{ℕ, List, map}
use Rattle.gateway_run.specs.gate_law.Settings.{ClientSettings, Settings}

-- by the names of the settings, in their order
abbrev pub client_names : Settings → List (List ℕ)
client_names s = map (λ (c : ClientSettings). c.comp) s.clients
