-- How the parts of the settings are seen by the law as one.
use Rattle.std.specs.Prelude.{ℕ, List}
use Rattle.soup_session.specs.Table as port
use Rattle.gate_law.specs.Settings.{ClientSettings, Settings}

-- the gateway of this name, with these ports and these clients, each in their order
abbrev pub settings_of : List ℕ → List port.LoginTerms → List ClientSettings → Settings
settings_of comp ports clients = record { comp = comp; ports = ports; clients = clients }
