-- Which settings are served, computed: those of the histories, and others that differ from them in one thing.
use Rattle.std.specs.Prelude.{◌≡◌, true, false, List, [], ◌∷◌, refl, replicate, codes}
use Rattle.gate_law.specs.soup_session.Table as port
use Rattle.gate_law.specs.Settings.{ClientSettings, Settings}
use Rattle.gate_law.specs.Limits.{is_served}
use Rattle.gate_examples.specs.Transcript.{settings, client_by, port_user}

abbrev with_ports : List port.LoginTerms → Settings
with_ports terms = record settings { ports = terms }

abbrev with_clients : List ClientSettings → Settings
with_clients clients = record settings { clients = clients }

served :
    (is_served settings ≡ true)
    × (is_served (record settings { comp = [] }) ≡ false)
    × (is_served (with_ports (replicate 16 port_user)) ≡ true)
    × (is_served (with_ports (replicate 17 port_user)) ≡ false)
    × (is_served (with_ports (port_user ∷ [])) ≡ false)  -- client 3 is on the second
    × (is_served (with_ports (port_user ∷ record port_user { user = [] } ∷ [])) ≡ false)
    × (is_served (with_ports (port_user ∷ record port_user { password = replicate 10 32 } ∷ [])) ≡ true)
    × (is_served (with_ports (port_user ∷ record port_user { password = replicate 11 32 } ∷ [])) ≡ false)
    × (is_served (with_clients []) ≡ false)
    × (is_served (with_clients (client_by (codes "C1") 1 ∷ [])) ≡ true)
    × (is_served (with_clients (client_by (codes "C1") 1 ∷ client_by (codes "C1") 2 ∷ [])) ≡ false)  -- two of one name
    × (is_served (with_clients (client_by (codes "C 1") 1 ∷ [])) ≡ false)
served = (refl, refl, refl, refl, refl, refl, refl, refl, refl, refl, refl, refl)
