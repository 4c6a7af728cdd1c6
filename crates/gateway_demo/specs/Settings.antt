-- The settings of the demonstration.
use Rattle.std.specs.Prelude.{List, ℕ, [], ◌∷◌, codes}
use Rattle.gate_core.specs.soup_session.Table as port
use Rattle.gateway_run.specs.gate_law.Settings.{ClientSettings, Settings}
use Rattle.gate_core.specs.gate_settings.Seen.{settings_of}

-- of the port
abbrev pub demo_login : port.LoginTerms
demo_login = record { user = codes "USER01"; password = codes "PASSWORD" }

-- a client of this name on the port: its orders are entered by the firm FIRM as an agent, for a retail customer
abbrev pub demo_client : List ℕ → ClientSettings
demo_client name = record {
  comp = name;
  terms = record { port = 1; capacity = 65; standing = record { firm = codes "FIRM"; customer = 82 } };
}

-- two clients on one port
abbrev pub demo_settings : Settings
demo_settings = settings_of (codes "GATE") (demo_login ∷ []) (demo_client (codes "C1") ∷ demo_client (codes "C2") ∷ [])
