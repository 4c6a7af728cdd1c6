-- Which settings are served. (The limits are this gateway's own; the lengths of user and password are those of
-- SoupBinTCP 3.00, "Login Request Packet", that of a firm OUCH 4.2's, "Enter Order Message".)
use Rattle.std.specs.Prelude.{ℕ, Bool, true, not, ◌&&◌, ◌==◌, nat_le, List, [], ◌∷◌, map, length, codes, bytes_eq}
use Rattle.std.specs.List.{list_all, list_any}
use Rattle.order_law.specs.wire_law.Printable.{is_visible, is_printable}
use Rattle.soup_session.specs.Table as port
use Rattle.gate_law.specs.Settings.{ClientSettings, Settings, has_port}

abbrev pub is_between : ℕ → ℕ → ℕ → Bool
is_between least most n = nat_le least n && nat_le n most

-- a name of the gateway or of a client: 1 to 20 bytes from 33 to 126
abbrev pub is_name : List ℕ → Bool
is_name name = is_between 1 20 (length name) && list_all is_visible name

abbrev pub is_byte_of : List ℕ → ℕ → Bool
is_byte_of letters letter = list_any (λ (l : ℕ). l == letter) letters

-- a user of 1 to 6 bytes, a password of at most 10
abbrev pub is_port : port.LoginTerms → Bool
is_port terms = is_between 1 6 (length terms.user) && nat_le (length terms.password) 10

-- its port is one of these; its firm has 4 bytes from 32 to 126, its orders a capacity of A, P or R and a customer of
-- R, N or one space
abbrev pub is_client : Settings → ClientSettings → Bool
is_client s c =
    is_name c.comp
    && (has_port s c.terms.port
    && ((length c.terms.standing.firm == 4)
    && (list_all is_printable c.terms.standing.firm
    && (is_byte_of (codes "APR") c.terms.capacity && is_byte_of (codes "RN ") c.terms.standing.customer))))

-- no two of these are the same
abbrev pub is_each_own : List (List ℕ) → Bool
is_each_own [] = true
is_each_own (name ∷ names) = not (list_any (bytes_eq name) names) && is_each_own names

-- 1 to 16 ports, and 1 to 64 clients, each with a name of its own
abbrev pub is_served : Settings → Bool
is_served s =
    is_name s.comp
    && (is_between 1 16 (length s.ports)
    && (list_all is_port s.ports
    && (is_between 1 64 (length s.clients)
    && (list_all (is_client s) s.clients && is_each_own (map (λ (c : ClientSettings). c.comp) s.clients)))))
