-- What of files is refused, and what a file says, computed.
use Rattle.std.specs.Prelude.{◌≡◌, refl, ℕ, ◌+◌, zero, suc, List, [], ◌∷◌, ◌++◌, replicate, codes, bytes_eq, Option}
use Rattle.std.specs.Prelude.{Some, None, true, false, if◌then◌else◌}
use Rattle.std.specs.Ordering.{match_ordering, nat_cmp}
use Rattle.std.specs.Cmp.Lexicographic.{slice_cmp}
use Rattle.toml.specs.Data.{Data, string, boolean, array, table, Items, no_items, item, Members, no_members, member}
use Rattle.settings_file.specs.Rules.{Refused, refused, is_address, line_at}
use Rattle.settings_file.specs.declared.fault.SettingsTable.TheVariants.{Top, Port, Client}
use Rattle.settings_file.specs.File.{file_settings}

-- a key with a value, in its place among others, in byte order; the value that the key had is gone
abbrev with_key : List ℕ → Data → Members → Members
with_key key d no_members = member key d no_members
with_key key d (member k e ms) =
    match_ordering (slice_cmp nat_cmp key k) (member key d (member k e ms)) (member key d ms)
    (member k e (with_key key d ms))

abbrev without_key : List ℕ → Members → Members
without_key key no_members = no_members
without_key key (member k e ms) = if bytes_eq key k then ms else member k e (without_key key ms)

abbrev text : List ℕ → Data
text bytes = string bytes

abbrev items : List Members → Items
items [] = no_items
items (t ∷ ts) = item (table t) (items ts)

abbrev tables : List Members → Data
tables ts = array (items ts)

-- a port of this name, and a client of this name with this address, on port P1
abbrev port_named : List ℕ → Members
port_named name =
    member (codes "address") (text (codes "h:1"))
    (member (codes "name") (text name)
    (member (codes "password") (text (codes ""))
    (member (codes "user") (text (codes "USER01")) no_members)))

abbrev client_named : List ℕ → List ℕ → Members
client_named comp listen =
    member (codes "capacity") (text (codes "A"))
    (member (codes "comp") (text comp)
    (member (codes "customer") (text (codes "R"))
    (member (codes "firm") (text (codes "FM"))
    (member (codes "listen") (text listen)
    (member (codes "port") (text (codes "P1")) no_members)))))

abbrev port : Members
port = port_named (codes "P1")

abbrev client : Members
client = client_named (codes "C1") (codes "h:2")

abbrev file : List Members → List Members → Members
file ports clients =
    member (codes "client") (tables clients)
    (member (codes "comp") (text (codes "GATE"))
    (member (codes "port") (tables ports) no_members))

abbrev whole : Members
whole = file (port ∷ []) (client ∷ [])

-- what is refused of the file with this port, with this client
abbrev of_port : Members → Option Refused
of_port t = refused (table (file (t ∷ []) (client ∷ [])))

abbrev of_client : Members → Option Refused
of_client t = refused (table (file (port ∷ []) (t ∷ [])))

-- refused at the top, of a port, of a client
abbrev by_top : List ℕ → Option Refused
by_top key = Some (record { table = Top; key = key })

abbrev by_port : ℕ → List ℕ → Option Refused
by_port number key = Some (record { table = Port number; key = key })

abbrev by_client : ℕ → List ℕ → Option Refused
by_client number key = Some (record { table = Client number; key = key })

-- ---- what a file says

-- two ports, and the client on the second
abbrev on_second : Members
on_second = file (port ∷ port_named (codes "P2") ∷ []) (with_key (codes "port") (text (codes "P2")) client ∷ [])

read :
    (refused (table whole) ≡ None)
    × (file_settings (table on_second) ≡ record {
      settings = record {
        comp = codes "GATE";
        ports =
            record { user = codes "USER01"; password = [] }
            ∷ record { user = codes "USER01"; password = [] }
            ∷ [];
        clients = record {
          comp = codes "C1";
          terms = record { port = 2; capacity = 65; standing = record { firm = codes "FM  "; customer = 82 } };
        } ∷ [];
      };
      addresses = codes "h:1" ∷ codes "h:1" ∷ [];
      listens = codes "h:2" ∷ [];
    })
read = (refl, refl)

-- ---- keys that are missing

missing :
    (refused (table no_members) ≡ by_top (codes "comp"))
    × (refused (table (without_key (codes "comp") whole)) ≡ by_top (codes "comp"))
    × (refused (table (without_key (codes "port") whole)) ≡ by_top (codes "port"))
    × (refused (table (without_key (codes "client") whole)) ≡ by_top (codes "client"))
    × (of_port (without_key (codes "name") port) ≡ by_port 1 (codes "name"))
    × (of_port (without_key (codes "address") port) ≡ by_port 1 (codes "address"))
    × (of_port (without_key (codes "user") port) ≡ by_port 1 (codes "user"))
    × (of_port (without_key (codes "password") port) ≡ by_port 1 (codes "password"))
    × (of_client (without_key (codes "comp") client) ≡ by_client 1 (codes "comp"))
    × (of_client (without_key (codes "listen") client) ≡ by_client 1 (codes "listen"))
    × (of_client (without_key (codes "port") client) ≡ by_client 1 (codes "port"))
    × (of_client (without_key (codes "firm") client) ≡ by_client 1 (codes "firm"))
    × (of_client (without_key (codes "capacity") client) ≡ by_client 1 (codes "capacity"))
    × (of_client (without_key (codes "customer") client) ≡ by_client 1 (codes "customer"))
missing = (refl, refl, refl, refl, refl, refl, refl, refl, refl, refl, refl, refl, refl, refl)

-- ---- other keys

abbrev with_others : Members → Members
with_others t = with_key (codes "zz") (boolean true) (with_key (codes "b") (boolean true) t)

others :
    (refused (table (with_others whole)) ≡ by_top (codes "b"))
    × (of_port (with_others port) ≡ by_port 1 (codes "b"))
    × (of_client (with_others client) ≡ by_client 1 (codes "b"))
    -- behind all listed keys of their table
    × (of_client (with_others (without_key (codes "customer") client)) ≡ by_client 1 (codes "customer"))
    -- in front of the next table
    × (refused (table (file (with_key (codes "zz") (boolean true) port ∷ no_members ∷ []) [])) ≡ by_port 1 (codes "zz"))
    -- those of the top behind all tables
    × (refused (table (with_others (file (port ∷ []) (client ∷ no_members ∷ [])))) ≡ by_client 2 (codes "comp"))
others = (refl, refl, refl, refl, refl, refl)

-- what an operator sets is none of the gateway's, whatever it says, where it may stand
operators :
    (refused (table (with_key (codes "control") (boolean true) (with_key (codes "day") (boolean true) whole))) ≡ None)
    × (of_client (with_key (codes "from") (boolean true) client) ≡ None)
    × (of_client (with_key (codes "day") (boolean true) client) ≡ by_client 1 (codes "day"))
    × (of_port (with_key (codes "from") (boolean true) port) ≡ by_port 1 (codes "from"))
    × (refused (table (with_key (codes "from") (boolean true) whole)) ≡ by_top (codes "from"))
operators = (refl, refl, refl, refl, refl)

-- ---- texts that are wrong, beside what is right

abbrev port_with : List ℕ → List ℕ → Option Refused
port_with key bytes = of_port (with_key key (text bytes) port)

abbrev client_with : List ℕ → List ℕ → Option Refused
client_with key bytes = of_client (with_key key (text bytes) client)

abbrev gate_with : List ℕ → Option Refused
gate_with name = refused (table (with_key (codes "comp") (text name) whole))

names :
    (gate_with (replicate 20 126) ≡ None)
    × (gate_with (replicate 21 126) ≡ by_top (codes "comp"))
    × (gate_with (codes "!") ≡ None)
    × (gate_with (codes "a b") ≡ by_top (codes "comp"))
    × (gate_with [] ≡ by_top (codes "comp"))
    -- no text at all
    × (refused (table (with_key (codes "comp") (boolean true) whole)) ≡ by_top (codes "comp"))
    × (port_with (codes "name") (codes "P 1") ≡ by_port 1 (codes "name"))
    × (client_with (codes "comp") [] ≡ by_client 1 (codes "comp"))
names = (refl, refl, refl, refl, refl, refl, refl, refl)

addresses :
    (is_address (codes "10.1.1.5:26400") ≡ true)
    × (is_address (codes "h:65535") ≡ true)
    × (is_address (codes "h:65536") ≡ false)
    × (is_address (codes "[::1]:00080") ≡ true)
    × (is_address (codes "h:000080") ≡ false)
    × (is_address (codes "h:") ≡ false)
    × (is_address (codes "h") ≡ false)
    × (is_address (codes ":80") ≡ false)
    × (is_address (codes "h :80") ≡ false)
    × (is_address (replicate 252 104 ++ codes ":80") ≡ true)
    × (is_address (replicate 253 104 ++ codes ":80") ≡ false)
    × (port_with (codes "address") (codes "h") ≡ by_port 1 (codes "address"))
    × (client_with (codes "listen") (codes "h") ≡ by_client 1 (codes "listen"))
addresses = (refl, refl, refl, refl, refl, refl, refl, refl, refl, refl, refl, refl, refl)

terms :
    (port_with (codes "user") [] ≡ by_port 1 (codes "user"))
    × (port_with (codes "user") (replicate 6 1) ≡ None)
    × (port_with (codes "user") (replicate 7 1) ≡ by_port 1 (codes "user"))
    × (port_with (codes "password") (replicate 10 1) ≡ None)
    × (port_with (codes "password") (replicate 11 1) ≡ by_port 1 (codes "password"))
    × (client_with (codes "port") (codes "P2") ≡ by_client 1 (codes "port"))
    × (client_with (codes "firm") [] ≡ by_client 1 (codes "firm"))
    × (client_with (codes "firm") (codes " ~~~") ≡ None)
    × (client_with (codes "firm") (31 ∷ []) ≡ by_client 1 (codes "firm"))
    × (client_with (codes "firm") (127 ∷ []) ≡ by_client 1 (codes "firm"))
    × (client_with (codes "firm") (replicate 5 65) ≡ by_client 1 (codes "firm"))
terms = (refl, refl, refl, refl, refl, refl, refl, refl, refl, refl, refl)

letters :
    (client_with (codes "capacity") (codes "P") ≡ None)
    × (client_with (codes "capacity") (codes "R") ≡ None)
    × (client_with (codes "capacity") (codes "B") ≡ by_client 1 (codes "capacity"))
    × (client_with (codes "capacity") (codes "AP") ≡ by_client 1 (codes "capacity"))
    × (client_with (codes "capacity") [] ≡ by_client 1 (codes "capacity"))
    × (client_with (codes "customer") (codes "N") ≡ None)
    × (client_with (codes "customer") (codes " ") ≡ None)
    × (client_with (codes "customer") (codes "A") ≡ by_client 1 (codes "customer"))
letters = (refl, refl, refl, refl, refl, refl, refl, refl)

-- ---- more than one table, and how many there may be

abbrev clients_of : ℕ → List Members
clients_of zero = []
clients_of (suc n) = client_named ((33 + n) ∷ []) ((33 + n) ∷ codes ":1") ∷ clients_of n

abbrev ports_of : ℕ → List Members
ports_of zero = port ∷ []
ports_of (suc n) = port_named ((81 + n) ∷ []) ∷ ports_of n

-- the client, and another one of this name with this address
abbrev beside_client : List ℕ → List ℕ → Option Refused
beside_client comp listen = refused (table (file (port ∷ []) (client ∷ client_named comp listen ∷ [])))

-- a client, and what is no table
abbrev no_table : Data
no_table = array (item (table client) (item (boolean true) no_items))

tables_of :
    -- what another port, another client has already
    (refused (table (file (port ∷ port ∷ []) (client ∷ []))) ≡ by_port 2 (codes "name"))
    × (beside_client (codes "C1") (codes "h:3") ≡ by_client 2 (codes "comp"))
    × (beside_client (codes "C2") (codes "h:2") ≡ by_client 2 (codes "listen"))
    × (beside_client (codes "C2") (codes "h:3") ≡ None)
    -- the most of them, and one more
    × (refused (table (file (ports_of 15) (clients_of 64))) ≡ None)
    × (refused (table (file (ports_of 16) (clients_of 64))) ≡ by_top (codes "port"))
    × (refused (table (file (ports_of 15) (clients_of 65))) ≡ by_top (codes "client"))
    -- none, and no tables
    × (refused (table (file [] (client ∷ []))) ≡ by_top (codes "port"))
    × (refused (table (file (port ∷ []) [])) ≡ by_top (codes "client"))
    × (refused (table (with_key (codes "port") (table port) whole)) ≡ by_top (codes "port"))
    × (refused (table (with_key (codes "client") no_table whole)) ≡ by_top (codes "client"))
tables_of = (refl, refl, refl, refl, refl, refl, refl, refl, refl, refl, refl)

-- ---- lines

lines :
    (line_at 0 (codes "a") ≡ 1)
    × (line_at 1 (97 ∷ 10 ∷ 98 ∷ []) ≡ 1)
    × (line_at 2 (97 ∷ 10 ∷ 98 ∷ []) ≡ 2)
    × (line_at 3 (97 ∷ 10 ∷ 10 ∷ 98 ∷ []) ≡ 3)
    × (line_at 1 (97 ∷ 13 ∷ 98 ∷ []) ≡ 1)
lines = (refl, refl, refl, refl, refl)
