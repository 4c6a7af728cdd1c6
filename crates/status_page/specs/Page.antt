-- What a page says of a day: alarms first, then clients and ports. What a settings file says is escaped.
--
-- Source: HTML Living Standard.
use Rattle.std.specs.Prelude.{ℕ, ◌+◌, ◌-◌, ◌^◌, ◌/◌, min, List, [], ◌∷◌, ◌++◌, map, drop, codes, decimal}
use Rattle.std.specs.Prelude.{Option, Some, None, is_some, if◌then◌else◌}
use Rattle.fix_stamp.specs.Stamp.{stamp_text}
use Rattle.fixed_point.specs.Price.{price_text}
use Rattle.gateway_watch.specs.Rows.{ClientRow, PortRow, PortState, Down, LoggingIn, Up, Ended, Faulted, is_up}
use Rattle.gateway_watch.specs.declared.board.Shown.{Shown}
use Rattle.status_page.specs.declared.day.DayNames.{DayNames}
use Rattle.status_page.specs.Html.{escaped}
use Rattle.status_page.specs.Words.{is_late, reason_of, state_name}

-- ---- words

-- a word and a number
abbrev pub counted : List ℕ → ℕ → List ℕ
counted word number = word ++ decimal number

-- a word and a text that is shown as it is
abbrev pub told : List ℕ → List ℕ → List ℕ
told word text = word ++ escaped text

-- a word, a number and a text
unfoldable pub numbered : List ℕ → ℕ → List ℕ → List ℕ → List ℕ
numbered word number before text = counted word number ++ told before text

-- the first name; none where there are no more
abbrev pub first_name : List (List ℕ) → List ℕ
first_name [] = []
first_name (name ∷ names) = name

-- rows are numbered from 1, as far as 64 bits hold their number
abbrev pub next_number : ℕ → ℕ
next_number number = min (number + 1) (2 ^ 64 - 1)

-- a reason behind what leads to it, where there is one
abbrev pub reason : List ℕ → PortState → List ℕ
reason before Down = []
reason before LoggingIn = []
reason before Up = []
reason before Ended = []
reason before (Faulted fault) = told before (reason_of (Faulted fault))

-- ---- the top

-- when all stood as it is shown, and after how many events
unfoldable pub moment_of : Shown → List ℕ
moment_of shown =
    told (codes "as it stood at ") (stamp_text shown.at) ++ counted (codes " UTC, after ") shown.status.events
    ++ codes " events; "

abbrev pub moment : Option Shown → List ℕ
moment None = []
moment (Some shown) = moment_of shown

-- when the day ends
abbrev pub end : Option ℕ → List ℕ
end None = codes "; the day ends when it is told to"
end (Some ends) = told (codes "; the day ends at ") (stamp_text ends)

-- from when to when the day is
unfoldable pub span : ℕ → Option ℕ → List ℕ
span begun ends = told (codes "since ") (stamp_text begun) ++ end ends ++ codes "</p>\n"

-- whose day it is
unfoldable pub title : List ℕ → List ℕ
title gateway = told (codes "<h1>") gateway ++ codes "</h1><p>"

unfoldable pub top : DayNames → Option Shown → List ℕ
top names shown = title names.gateway.items ++ moment shown ++ span names.begun names.ends

-- ---- alarms

-- that what is shown is old, or that nothing is
abbrev pub age : Option Shown → ℕ → List ℕ
age None now = codes "Nothing is known"
age (Some shown) now = counted (codes "This is ") ((now - shown.at) / 1000) ++ codes " s old"

unfoldable pub age_alarm : Option Shown → ℕ → List ℕ
age_alarm shown now =
    codes "<div class=\"alarm\"><b>" ++ age shown now ++ codes "</b>: memory is refused, or the gateway hangs.</div>\n"

abbrev pub late : DayNames → Option Shown → ℕ → List ℕ
late names shown now = if is_late names shown now then age_alarm shown now else []

-- how it stands
unfoldable pub standing : PortState → List ℕ
standing state = codes " is <b>" ++ state_name state ++ codes "</b>" ++ reason (codes ": ") state

-- a port that somebody has to look at
unfoldable pub alarm : ℕ → List ℕ → PortState → List ℕ
alarm number address state =
    numbered (codes "<div class=\"alarm\"><b>P") number (codes "</b> at ") address ++ standing state
    ++ codes "</div>\n"

-- each that isn't up is
abbrev pub alarm_of : ℕ → List ℕ → PortState → List ℕ
alarm_of number address state = if is_up state then [] else alarm number address state

abbrev pub alarms : ℕ → List (List ℕ) → List PortRow → List ℕ
alarms number addresses [] = []
alarms number addresses (row ∷ rows) =
    alarm_of number (first_name addresses) row.state ++ alarms (next_number number) (drop 1 addresses) rows

-- ---- clients

-- how a client's session stands
abbrev pub session : ClientRow → List ℕ
session row =
    if row.is_logged_on then codes "<td class=\"g\">logged on"
    else if is_some row.link then codes "<td class=\"w\">connected"
    else codes "<td class=\"d\">&ndash;"

-- the number of a link, where there is one
abbrev pub link : Option ℕ → List ℕ
link None = codes "<td class=\"n d\">&ndash;"
link (Some number) = counted (codes "<td class=\"n\">") number

abbrev pub number_cell : ℕ → List ℕ
number_cell number = counted (codes "<td class=\"n\">") number

-- an amount in 1/10,000, as a price is printed
abbrev pub money_cell : ℕ → List ℕ
money_cell units = told (codes "<td class=\"n\">") (price_text units)

-- the shares that a client executed, and their value
abbrev pub executed : ClientRow → List ℕ
executed row = number_cell row.executed_shares ++ money_cell row.value

unfoldable pub client_numbers : ClientRow → List ℕ
client_numbers row =
    number_cell row.open_orders ++ executed row ++ number_cell row.next_in ++ number_cell row.next_out
    ++ codes "</tr>\n"

-- a client's row: its name, its session, its link, how many of its orders are open, what it executed, and the numbers
-- that come next
unfoldable pub client_row : ℕ → List ℕ → ClientRow → List ℕ
client_row number name row =
    numbered (codes "<tr><td><b>C") number (codes "</b><td>") name ++ session row ++ link row.link ++ client_numbers row

abbrev pub client_rows : ℕ → List (List ℕ) → List ClientRow → List ℕ
client_rows number names [] = []
client_rows number names (row ∷ rows) =
    client_row number (first_name names) row ++ client_rows (next_number number) (drop 1 names) rows

unfoldable pub client_head : List ℕ
client_head =
    codes "<h2>Clients</h2><div class=\"t\"><table><tr><th>client<th>name<th>session<th class=\"n\">link"
    ++ codes "<th class=\"n\">open orders<th class=\"n\">executed<th class=\"n\">value<th class=\"n\">next in"
    ++ codes "<th class=\"n\">next out</tr>\n"

unfoldable pub clients : List (List ℕ) → List ClientRow → List ℕ
clients names rows = client_head ++ client_rows 1 names rows ++ codes "</table></div>\n"

-- ---- ports

-- a port's state, by how much it matters
abbrev pub state_cell : PortState → List ℕ
state_cell Up = codes "<td class=\"g\">"
state_cell Down = codes "<td class=\"w\">"
state_cell LoggingIn = codes "<td class=\"w\">"
state_cell Ended = codes "<td class=\"b\">"
state_cell (Faulted fault) = codes "<td class=\"b\">"

unfoldable pub port_state : PortState → List ℕ
port_state state = state_cell state ++ state_name state ++ codes "<td>" ++ reason [] state

-- a port's row: its address, its state with the reason, its link, and the number of the next payload
unfoldable pub port_row : ℕ → List ℕ → PortRow → List ℕ
port_row number address row =
    numbered (codes "<tr><td><b>P") number (codes "</b><td>") address ++ port_state row.state ++ link row.link
    ++ number_cell row.next ++ codes "</tr>\n"

abbrev pub port_rows : ℕ → List (List ℕ) → List PortRow → List ℕ
port_rows number addresses [] = []
port_rows number addresses (row ∷ rows) =
    port_row number (first_name addresses) row ++ port_rows (next_number number) (drop 1 addresses) rows

unfoldable pub port_head : List ℕ
port_head =
    codes "<h2>Ports</h2><div class=\"t\"><table><tr><th>port<th>address<th>session<th>reason<th class=\"n\">link"
    ++ codes "<th class=\"n\">next</tr>\n"

unfoldable pub ports : List (List ℕ) → List PortRow → List ℕ
ports addresses rows = port_head ++ port_rows 1 addresses rows ++ codes "</table></div>\n"

-- ---- the whole

-- how all stood
abbrev pub board : List (List ℕ) → List (List ℕ) → Shown → List ℕ
board names addresses shown =
    alarms 1 addresses shown.status.ports.items ++ clients names shown.status.clients.items
    ++ ports addresses shown.status.ports.items

abbrev pub status : DayNames → Option Shown → List ℕ
status names None = []
status names (Some shown) = board (map (λ v. v.items) names.clients.items) (map (λ v. v.items) names.ports.items) shown

-- what a page says
unfoldable pub body : DayNames → Option Shown → ℕ → List ℕ
body names shown now = top names shown ++ late names shown now ++ status names shown
