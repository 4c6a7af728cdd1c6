-- Settings that are served, and others that aren't, computed.
use Rattle.std.specs.Prelude.{◌≡◌, ◌+◌, ℕ, zero, suc, true, false, List, [], ◌∷◌, refl, replicate, codes}
use Rattle.soup_session.specs.Table as port
use Rattle.gate_law.specs.Settings.{ClientSettings, Settings}
use Rattle.gate_law.specs.Limits.{is_served}
use Rattle.gate_settings.specs.Seen.{settings_of}

abbrev login : port.LoginTerms
login = record { user = codes "USER1"; password = codes "SECRET" }

-- a client of this name on this port: its orders are entered by the firm FIRM as an agent, for a retail customer
abbrev client_of : List ℕ → ℕ → ClientSettings
client_of name port = record {
  comp = name;
  terms =
      record { port = port; capacity = 65; standing = record { firm = codes "FIRM"; customer = 82 } };
}

-- so many clients on the first port, each with one byte as its name, from `!` on
abbrev clients : ℕ → List ClientSettings
clients zero = []
clients (suc n) = client_of ((33 + n) ∷ []) 1 ∷ clients n

abbrev gate : List port.LoginTerms → List ClientSettings → Settings
gate ports clients = settings_of (codes "GATE") ports clients

abbrev longest_names : Settings
longest_names = settings_of (replicate 20 126) (record { user = codes "USER01"; password = [] } ∷ [])
    (client_of (replicate 20 33) 1 ∷ [])

served :
    (is_served (gate (login ∷ []) (client_of (codes "C1") 1 ∷ [])) ≡ true)
    × (is_served longest_names ≡ true)
    -- the most ports and clients, one of these on the last port
    × (is_served (gate (replicate 16 login) (client_of (codes "LAST") 16 ∷ clients 63)) ≡ true)
served = (refl, refl, refl)

not_served :
    -- one port too many
    (is_served (gate (replicate 17 login) (client_of (codes "C1") 1 ∷ [])) ≡ false)
    -- a client on a port that there isn't
    × (is_served (gate (login ∷ []) (client_of (codes "C1") 2 ∷ [])) ≡ false)
    -- two clients of one name, on two ports
    × (is_served (gate (login ∷ login ∷ []) (client_of (codes "C1") 1 ∷ client_of (codes "C1") 2 ∷ [])) ≡ false)
not_served = (refl, refl, refl)
