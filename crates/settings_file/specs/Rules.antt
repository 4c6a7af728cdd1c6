-- Which keys the tables of a settings file have, in their order, and what the text of each has to be.
--
-- Tables, arrays of tables and strings are TOML 1.1's; the keys are this gateway's own. Names: FIX 4.4 Volume 2,
-- "Standard Message Header"; user and password: SoupBinTCP 3.00, "Login Request Packet"; firm, capacity and customer:
-- OUCH 4.2, "Enter Order Message".
use Rattle.std.specs.Prelude.{ℕ, Bool, false, not, ◌&&◌, ◌||◌, ◌==◌, nat_le, List, [], ◌∷◌, ◌++◌, map, length, drop}
use Rattle.std.specs.Prelude.{codes, bytes_eq, find, Option, Some, None, option_and_then, option_map, is_some}
use Rattle.std.specs.Prelude.{◌+◌, take, if◌then◌else◌}
use Rattle.std.specs.Option.{option_or}
use Rattle.std.specs.List.{count_by, list_all, list_any}
use Rattle.std.specs.Char.{is_ascii_digit}
use Rattle.wire_bytes.specs.Digits.{number_of}
use Rattle.wire_law.specs.Printable.{is_printable, is_visible}
use Rattle.gate_law.specs.Limits.{is_between, is_byte_of, is_name}
use Rattle.toml.specs.Data.{Data, table, Items, no_items, item, Members, no_members, member, get, as_array, as_str}
use Rattle.toml.specs.Data.{as_table}
use Rattle.settings_file.specs.declared.fault.SettingsTable.{SettingsTable}
use Rattle.settings_file.specs.declared.fault.SettingsTable.TheVariants.{Top, Port, Client}

-- a key, and which texts it may have
pub record Rule : Type 0 where
  pub key : List ℕ
  pub holds : List ℕ → Bool

-- the line, from 1, on which this place of a text is: one behind each line feed in front of it
abbrev pub line_at : ℕ → List ℕ → ℕ
line_at place text = count_by (λ byte. byte == 10) (take place text) + 1

-- what a file is refused by: a key, missing or wrong in one of its tables
pub record Refused : Type 0 where
  pub table : SettingsTable
  pub key : List ℕ

-- a key that is refused in this table
abbrev pub in_table : SettingsTable → Option (List ℕ) → Option Refused
in_table of key = option_map (λ k. record { table = of; key = k }) key

-- the text of a key in a table, where it has one
abbrev pub text_in : List ℕ → Data → Option (List ℕ)
text_in key t = option_and_then as_str (get key t)

-- a text, where it holds
abbrev pub where_it_holds : (List ℕ → Bool) → List ℕ → Option (List ℕ)
where_it_holds holds text = if holds text then Some text else None

-- the text of a rule's key, where there is one and the rule lets it pass
abbrev pub kept_text : Data → Rule → Option (List ℕ)
kept_text t r = option_and_then (where_it_holds r.holds) (text_in r.key t)

-- the key of the first of these rules whose text is missing or wrong
abbrev pub first_broken : List Rule → Data → Option (List ℕ)
first_broken [] t = None
first_broken (r ∷ rs) t = if is_some (kept_text t r) then first_broken rs t else Some r.key

-- the keys of a table, in byte order
abbrev pub member_keys : Members → List (List ℕ)
member_keys no_members = []
member_keys (member key d ms) = key ∷ member_keys ms

abbrev pub keys_in : Data → List (List ℕ)
keys_in (table ms) = member_keys ms
keys_in _ = []

-- the first key of a table, in byte order, that isn't one of these
abbrev pub first_other : List (List ℕ) → Data → Option (List ℕ)
first_other keys t = find (λ key. not (list_any (bytes_eq key) keys)) (keys_in t)

-- What is refused of a table: the first of its keys, in the rules' order, that is missing or wrong; where all are as
-- they should be, the first other one.
abbrev pub refused_in : List Rule → Data → Option (List ℕ)
refused_in rules t = option_or (first_broken rules t) (first_other (map (λ (r : Rule). r.key) rules) t)

-- ---- the texts of keys

abbrev pub is_this : List ℕ → Option (List ℕ) → Bool
is_this text None = false
is_this text (Some other) = bytes_eq other text

-- one of these tables has this text at a key
abbrev pub is_text_of : List ℕ → List Data → List ℕ → Bool
is_text_of key tables text = list_any (λ t. is_this text (text_in key t)) tables

-- a name that none of the earlier tables has: 1 to 20 bytes from 33 to 126
abbrev pub own_name : List ℕ → List Data → Rule
own_name key earlier = record { key = key; holds = λ text. is_name text && not (is_text_of key earlier text) }

-- a TCP port: 1 to 5 digits, of a number of at most 65,535
abbrev pub is_tcp_port : List ℕ → Bool
is_tcp_port digits =
    is_between 1 5 (length digits) && (list_all is_ascii_digit digits && nat_le (number_of digits) 65_535)

-- a colon stands in it, behind which is a TCP port
abbrev pub ends_in_port : List ℕ → Bool
ends_in_port [] = false
ends_in_port (byte ∷ rest) = ((byte == 58) && is_tcp_port rest) || ends_in_port rest

-- a host, a colon and a TCP port: at most 255 bytes from 33 to 126, one before the colon at least
abbrev pub is_address : List ℕ → Bool
is_address text = nat_le (length text) 255 && (list_all is_visible text && ends_in_port (drop 1 text))

abbrev pub address : List ℕ → Rule
address key = record { key = key; holds = is_address }

-- an address that none of the earlier tables has
abbrev pub own_address : List ℕ → List Data → Rule
own_address key earlier = record { key = key; holds = λ text. is_address text && not (is_text_of key earlier text) }

abbrev pub user : Rule
user = record { key = codes "user"; holds = λ text. is_between 1 6 (length text) }

abbrev pub password : Rule
password = record { key = codes "password"; holds = λ text. nat_le (length text) 10 }

-- the name of one of these ports
abbrev pub port_name : List Data → Rule
port_name ports = record { key = codes "port"; holds = is_text_of (codes "name") ports }

abbrev pub firm : Rule
firm = record { key = codes "firm"; holds = λ text. is_between 1 4 (length text) && list_all is_printable text }

-- one of these letters, alone
abbrev pub is_letter_of : List ℕ → List ℕ → Bool
is_letter_of letters text = (length text == 1) && list_all (is_byte_of letters) text

abbrev pub letter : List ℕ → List ℕ → Rule
letter key letters = record { key = key; holds = is_letter_of letters }

-- ---- the tables

-- of a port, behind these
abbrev pub port_rules : List Data → List Rule
port_rules earlier = own_name (codes "name") earlier ∷ address (codes "address") ∷ user ∷ password ∷ []

-- of a client, behind these, beside these ports
abbrev pub client_rules : List Data → List Data → List Rule
client_rules ports earlier =
    own_name (codes "comp") earlier
    ∷ own_address (codes "listen") earlier
    ∷ port_name ports
    ∷ firm
    ∷ letter (codes "capacity") (codes "APR")
    ∷ letter (codes "customer") (codes "RN ")
    ∷ []

-- of the gateway
abbrev pub gateway_rules : List Rule
gateway_rules = own_name (codes "comp") [] ∷ []

-- the keys of a client: those of its rules, and `from`, which is its operator's
abbrev pub client_keys : List (List ℕ)
client_keys =
    codes "comp"
    ∷ codes "listen"
    ∷ codes "port"
    ∷ codes "firm"
    ∷ codes "capacity"
    ∷ codes "customer"
    ∷ codes "from"
    ∷ []

-- the keys of the whole file: the gateway's, and `day` and `control`, which are its operator's
abbrev pub file_keys : List (List ℕ)
file_keys = codes "comp" ∷ codes "port" ∷ codes "client" ∷ codes "day" ∷ codes "control" ∷ []

-- ---- the whole file

abbrev pub items_in : Items → List Data
items_in no_items = []
items_in (item d ds) = d ∷ items_in ds

abbrev pub is_table : Data → Bool
is_table d = is_some (as_table d)

abbrev pub items_or_none : Option Items → List Data
items_or_none None = []
items_or_none (Some ds) = items_in ds

-- the array of a key, where it has one
abbrev pub array_in : List ℕ → Data → Option Items
array_in key file = option_and_then as_array (get key file)

-- what stands in the array of a key, nothing where there is none
abbrev pub tables_at : List ℕ → Data → List Data
tables_at key file = items_or_none (array_in key file)

-- from 1 to so many, and each a table
abbrev pub are_tables : ℕ → List Data → Bool
are_tables most ds = is_between 1 most (length ds) && list_all is_table ds

-- of tables one after another, each behind the earlier ones
abbrev pub first_refused : (List Data → Data → Option Refused) → List Data → List Data → Option Refused
first_refused refused earlier [] = None
first_refused refused earlier (t ∷ ts) = option_or (refused earlier t) (first_refused refused (earlier ++ t ∷ []) ts)

abbrev pub refused_among : List ℕ → ℕ → (List Data → Data → Option Refused) → List Data → Option Refused
refused_among key most refused ts =
    if are_tables most ts then first_refused refused [] ts else Some (record { table = Top; key = key })

-- the number of the table behind these
abbrev pub number_behind : List Data → ℕ
number_behind earlier = length earlier + 1

abbrev pub refused_port : List Data → Data → Option Refused
refused_port earlier t = in_table (Port (number_behind earlier)) (refused_in (port_rules earlier) t)

abbrev pub refused_client : List Data → List Data → Data → Option Refused
refused_client ports earlier t =
    in_table (Client (number_behind earlier))
    (option_or (first_broken (client_rules ports earlier) t) (first_other client_keys t))

-- What is refused of a file: of `comp`, of each port in order, of each client in order, and then the first other key.
abbrev pub refused : Data → Option Refused
refused file =
    let ports = tables_at (codes "port") file in
    let clients = tables_at (codes "client") file in
    option_or (in_table Top (first_broken gateway_rules file))
    (option_or (refused_among (codes "port") 16 refused_port ports)
    (option_or (refused_among (codes "client") 64 (refused_client ports) clients)
    (in_table Top (first_other file_keys file))))
