-- The settings of a script.
use Rattle.std.specs.Prelude.{ℕ, List, [], ◌∷◌, codes}
use Rattle.gate_core.specs.soup_session.Table as port
use Rattle.gate_journal.specs.gate_law.Settings.{ClientSettings, Settings}
use Rattle.gate_core.specs.gate_settings.Seen.{settings_of}

-- of each port
abbrev pub fixed_login : port.LoginTerms
fixed_login = record { user = codes "USER01"; password = codes "PASSWORD" }

-- a client of this name on this port: its orders are entered by the firm FIRM as an agent, for a retail customer
abbrev pub fixed_client : List ℕ → ℕ → ClientSettings
fixed_client name port = record {
  comp = name;
  terms =
      record { port = port; capacity = 65; standing = record { firm = codes "FIRM"; customer = 82 } };
}

-- two clients on the first port, one on the second
abbrev pub fixed : Settings
fixed = settings_of (codes "GATE") (fixed_login ∷ fixed_login ∷ [])
    (fixed_client (codes "C1") 1 ∷ fixed_client (codes "C2") 1 ∷ fixed_client (codes "C3") 2 ∷ [])
