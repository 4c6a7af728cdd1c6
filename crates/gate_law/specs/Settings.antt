-- Who is served: the gateway, its ports and its clients, each numbered from 1 in the order of the settings.
use Rattle.std.specs.Prelude.{ℕ, ◌-◌, Bool, ◌&&◌, nat_le, List, [], map, length, get_or}
use Rattle.soup_session.specs.Table as port
use Rattle.order_law.specs.History.{Terms, terms_of}

-- a client: the name by which its frames are known (FIX 4.4 Volume 2, "Standard Message Header", SenderCompID), and
-- what its orders are entered with
pub record ClientSettings : Type 0 where
  pub comp : List ℕ
  pub terms : Terms

-- the gateway's own name; of each port user and password (SoupBinTCP 3.00, "Login Request Packet"); the clients
pub record Settings : Type 0 where
  pub comp : List ℕ
  pub ports : List port.LoginTerms
  pub clients : List ClientSettings

abbrev pub has_client : Settings → ℕ → Bool
has_client s client = nat_le 1 client && nat_le client (length s.clients)

abbrev pub has_port : Settings → ℕ → Bool
has_port s port = nat_le 1 port && nat_le port (length s.ports)

-- what the order level knows of the clients
abbrev pub terms : Settings → List Terms
terms s = map (λ (c : ClientSettings). c.terms) s.clients

-- the port of a client
abbrev pub port_of : Settings → ℕ → ℕ
port_of s client = (terms_of (terms s) client).port

-- by their numbers. Of a number that the settings don't have nothing is ever asked
abbrev pub client_name : Settings → ℕ → List ℕ
client_name s client = get_or (map (λ (c : ClientSettings). c.comp) s.clients) (client - 1) []

abbrev no_port : port.LoginTerms
no_port = record { user = []; password = [] }

abbrev pub port_terms : Settings → ℕ → port.LoginTerms
port_terms s port = get_or s.ports (port - 1) no_port
