-- What is refused of the tables of an operator, and what they say. TOML 1.1; the keys are this gateway's own.
use Rattle.std.specs.Prelude.{ℕ, ◌+◌, ◌*◌, ◌==◌, Bool, true, false, not, ◌&&◌, ◌||◌, nat_le, nat_lt, ℤ, pos, negsuc}
use Rattle.std.specs.Prelude.{List, [], ◌∷◌, ◌++◌, length, take, drop, codes, bytes_eq, find, if◌then◌else◌}
use Rattle.std.specs.Prelude.{Option, Some, None, option_and_then, option_map, is_some, unwrap_or}
use Rattle.std.specs.Option.{option_or}
use Rattle.std.specs.List.{list_all, list_any}
use Rattle.std.specs.Char.{is_ascii_digit}
use Rattle.wire_bytes.specs.Digits.{number_of}
use Rattle.wire_law.specs.Printable.{is_visible}
use Rattle.toml.specs.Data.{Data, table, Members, no_members, member, get, as_str, as_integer, as_datetime}
use Rattle.toml_datetime.specs.declared.datetime.Datetime.{Datetime}
use Rattle.toml_datetime.specs.declared.datetime.Time.{Time}

-- ---- keys

-- the keys of a table, in byte order
abbrev pub member_keys : Members → List (List ℕ)
member_keys no_members = []
member_keys (member key d ms) = key ∷ member_keys ms

abbrev pub keys_in : Data → List (List ℕ)
keys_in (table ms) = member_keys ms
keys_in _ = []

-- the first key of a table, in byte order, that isn't one of these
abbrev pub first_other : List (List ℕ) → Data → Option (List ℕ)
first_other keys t = find (λ key. not (list_any (bytes_eq key) keys)) (keys_in t)

-- a key with its table's name: `day.ends`
abbrev pub named : List ℕ → List ℕ → List ℕ
named of key = of ++ codes "." ++ key

-- it is refused unless something was read
abbrev pub unless_read : {X : Type 0} → List ℕ → Option X → Option (List ℕ)
unless_read key None = Some key
unless_read key (Some x) = None

-- ---- `[day]`

-- a time of day in milliseconds since midnight: it has neither a date nor an offset, and isn't a leap second's
abbrev pub milliseconds : Time → ℕ
milliseconds t = ((t.hour * 60 + t.minute) * 60 + unwrap_or t.second 0) * 1000

abbrev pub within_a_day : ℕ → Option ℕ
within_a_day time = if nat_lt time 86400000 then Some time else None

abbrev pub time_alone : Option Time → Option ℕ
time_alone None = None
time_alone (Some t) = within_a_day (milliseconds t)

abbrev pub time_in : Datetime → Option ℕ
time_in d = if is_some d.date || is_some d.offset then None else time_alone d.time

abbrev pub time_of : Data → Option ℕ
time_of d = option_and_then time_in (as_datetime d)

-- when a day ends: not at any time where nothing is said
abbrev pub ends_in : Option Data → Option (Option ℕ)
ends_in None = Some None
ends_in (Some d) = option_map Some (time_of d)

-- a number of seconds from 0 to 3,600
abbrev pub seconds_in : ℤ → Option ℕ
seconds_in (pos n) = if nat_le n 3600 then Some n else None
seconds_in (negsuc n) = None

abbrev pub seconds_of : Data → Option ℕ
seconds_of d = option_and_then seconds_in (as_integer d)

-- for how long the market's answers are awaited: ten seconds where nothing is said
abbrev pub linger_in : Option Data → Option ℕ
linger_in None = Some 10
linger_in (Some d) = seconds_of d

abbrev pub refused_day : Data → Option (List ℕ)
refused_day t =
    option_or (unless_read (codes "day.ends") (ends_in (get (codes "ends") t)))
    (option_or (unless_read (codes "day.linger") (linger_in (get (codes "linger") t)))
    (option_map (named (codes "day")) (first_other (codes "ends" ∷ codes "linger" ∷ []) t)))

-- ---- `[control]`

abbrev pub is_between : ℕ → ℕ → ℕ → Bool
is_between least most count = nat_le least count && nat_le count most

-- a TCP port: 1 to 5 digits, of a number of at most 65,535
abbrev pub is_tcp_port : List ℕ → Bool
is_tcp_port digits =
    is_between 1 5 (length digits) && (list_all is_ascii_digit digits && nat_le (number_of digits) 65_535)

-- a colon stands in it, behind which is a TCP port
abbrev pub ends_in_port : List ℕ → Bool
ends_in_port [] = false
ends_in_port (byte ∷ rest) = ((byte == 58) && is_tcp_port rest) || ends_in_port rest

-- a host, a colon and a TCP port: at most 255 bytes from 33 to 126, one before the colon at least
abbrev pub is_address : List ℕ → Bool
is_address text = nat_le (length text) 255 && (list_all is_visible text && ends_in_port (drop 1 text))

-- a token: 16 to 64 bytes from 33 to 126
abbrev pub is_token : List ℕ → Bool
is_token text = is_between 16 64 (length text) && list_all is_visible text

-- this host, and digits behind it
abbrev pub is_at : List ℕ → List ℕ → Bool
is_at host text = bytes_eq (take (length host) text) host && list_all is_ascii_digit (drop (length host) text)

-- an address of this machine itself
abbrev pub is_of_this_machine : List ℕ → Bool
is_of_this_machine text =
    is_at (codes "127.0.0.1:") text || (is_at (codes "[::1]:") text || is_at (codes "localhost:") text)

-- the text of a value, where it is one and is as it should be
abbrev pub where_it_holds : (List ℕ → Bool) → List ℕ → Option (List ℕ)
where_it_holds holds text = if holds text then Some text else None

abbrev pub text_of : (List ℕ → Bool) → Data → Option (List ℕ)
text_of holds d = option_and_then (where_it_holds holds) (as_str d)

-- of a key that has to be there
abbrev pub text_in : (List ℕ → Bool) → Option Data → Option (List ℕ)
text_in holds None = None
text_in holds (Some d) = text_of holds d

-- of one that needn't
abbrev pub any_text_in : (List ℕ → Bool) → Option Data → Option (Option (List ℕ))
any_text_in holds None = Some None
any_text_in holds (Some d) = option_map Some (text_of holds d)

-- without a token only an address of this machine may be listened at
abbrev pub token_for : List ℕ → Option Data → Option (Option (List ℕ))
token_for listen None = if is_of_this_machine listen then Some None else None
token_for listen (Some d) = option_map Some (text_of is_token d)

abbrev pub refused_beside : List ℕ → Data → Option (List ℕ)
refused_beside listen t =
    option_or (unless_read (codes "control.token") (token_for listen (get (codes "token") t)))
    (option_or (unless_read (codes "control.host") (any_text_in is_address (get (codes "host") t)))
    (option_map (named (codes "control")) (first_other (codes "listen" ∷ codes "token" ∷ codes "host" ∷ []) t)))

abbrev pub refused_at : Option (List ℕ) → Data → Option (List ℕ)
refused_at None t = Some (codes "control.listen")
refused_at (Some listen) t = refused_beside listen t

abbrev pub refused_control : Data → Option (List ℕ)
refused_control t = refused_at (text_in is_address (get (codes "listen") t)) t

-- ---- both tables

abbrev pub is_table : Data → Bool
is_table (table ms) = true
is_table _ = false

-- a table that needn't be there
abbrev pub refused_table : List ℕ → (Data → Option (List ℕ)) → Option Data → Option (List ℕ)
refused_table key refused None = None
refused_table key refused (Some d) = if is_table d then refused d else Some key

-- of `day`, and then of `control`
abbrev pub refused_tables : Data → Option (List ℕ)
refused_tables file =
    option_or (refused_table (codes "day") refused_day (get (codes "day") file))
    (refused_table (codes "control") refused_control (get (codes "control") file))

-- the value of a key in a table, where both are there
abbrev pub inside : List ℕ → List ℕ → Data → Option Data
inside of key file = option_and_then (get key) (get of file)
