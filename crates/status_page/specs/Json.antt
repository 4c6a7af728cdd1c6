-- The status of a day as JSON: the members of each object in the order of their keys.
--
-- Source: RFC 8259.
use Rattle.std.specs.Prelude.{ℕ, ◌-◌, List, [], ◌∷◌, ◌++◌, map, drop, codes, decimal, Option, Some, None}
use Rattle.std.specs.Prelude.{if◌then◌else◌}
use Rattle.serde_json.specs.Data.{Data, null, boolean, number, unsigned, string, array, object, member, no_members}
use Rattle.serde_json.specs.View.{items_of}
use Rattle.fix_stamp.specs.Stamp.{stamp_text}
use Rattle.gateway_watch.specs.Rows.{ClientRow, PortRow}
use Rattle.gateway_watch.specs.declared.board.Shown.{Shown}
use Rattle.status_page.specs.declared.day.DayNames.{DayNames}
use Rattle.status_page.specs.Html.{is_shown}
use Rattle.status_page.specs.Page.{first_name, next_number}
use Rattle.status_page.specs.Words.{reason_of, state_name}

-- ---- values

-- a text's bytes, of which those that aren't printable ASCII are dots
abbrev pub printable_byte : ℕ → ℕ
printable_byte byte = if is_shown byte then byte else 46

abbrev pub printable : List ℕ → List ℕ
printable text = map printable_byte text

abbrev pub text_data : List ℕ → Data
text_data text = string (printable text)

-- a moment as a UTCTimestamp
abbrev pub moment_data : ℕ → Data
moment_data at = text_data (stamp_text at)

abbrev pub end_data : Option ℕ → Data
end_data None = null
end_data (Some ends) = moment_data ends

-- the number of a link, where there is one
abbrev pub link_data : Option ℕ → Data
link_data None = null
link_data (Some link) = number (unsigned link)

-- `C1`
abbrev pub numbered : List ℕ → ℕ → List ℕ
numbered letter n = letter ++ decimal n

-- ---- clients and ports

-- a client, of whom some members are these texts
unfoldable pub client_members : (client name shares value : List ℕ) → ClientRow → Data
client_members client name shares value row =
    object (member (codes "client") (string client)
    (member (codes "executed_shares") (string shares)
    (member (codes "link") (link_data row.link)
    (member (codes "logged_on") (boolean row.is_logged_on)
    (member (codes "name") (string name)
    (member (codes "next_in") (number (unsigned row.next_in))
    (member (codes "next_out") (number (unsigned row.next_out))
    (member (codes "open_orders") (number (unsigned row.open_orders))
    (member (codes "value") (string value) no_members)))))))))

-- Shares and value may be larger than 64 bits hold, and so than a number of JSON is read exactly: they are texts.
abbrev pub client_data : ℕ → List ℕ → ClientRow → Data
client_data n name row = client_members (numbered (codes "C") n) (printable name) (decimal row.executed_shares)
    (decimal row.value) row

abbrev pub client_items : ℕ → List (List ℕ) → List ClientRow → List Data
client_items n names [] = []
client_items n names (row ∷ rows) =
    client_data n (first_name names) row ∷ client_items (next_number n) (drop 1 names) rows

unfoldable pub port_data : ℕ → List ℕ → PortRow → Data
port_data n address row =
    object (member (codes "address") (text_data address)
    (member (codes "link") (link_data row.link)
    (member (codes "next") (number (unsigned row.next))
    (member (codes "port") (string (numbered (codes "P") n))
    (member (codes "reason") (string (reason_of row.state))
    (member (codes "state") (string (state_name row.state)) no_members))))))

abbrev pub port_items : ℕ → List (List ℕ) → List PortRow → List Data
port_items n addresses [] = []
port_items n addresses (row ∷ rows) =
    port_data n (first_name addresses) row ∷ port_items (next_number n) (drop 1 addresses) rows

-- ---- the whole

-- of a day of which nothing is shown yet
unfoldable pub bare_data : DayNames → Data
bare_data names =
    object (member (codes "begun") (moment_data names.begun)
    (member (codes "ends") (end_data names.ends)
    (member (codes "gateway") (text_data names.gateway.items) no_members)))

abbrev pub clients_data : DayNames → Shown → Data
clients_data names shown =
    array (items_of (client_items 1 (map (λ v. v.items) names.clients.items) shown.status.clients.items))

abbrev pub ports_data : DayNames → Shown → Data
ports_data names shown =
    array (items_of (port_items 1 (map (λ v. v.items) names.ports.items) shown.status.ports.items))

-- of a day and how all stood
unfoldable pub shown_data : DayNames → Shown → ℕ → Data
shown_data names shown now =
    object (member (codes "age_ms") (number (unsigned (now - shown.at)))
    (member (codes "at") (moment_data shown.at)
    (member (codes "begun") (moment_data names.begun)
    (member (codes "clients") (clients_data names shown)
    (member (codes "ends") (end_data names.ends)
    (member (codes "events") (number (unsigned shown.status.events))
    (member (codes "gateway") (text_data names.gateway.items)
    (member (codes "ports") (ports_data names shown) no_members))))))))

abbrev pub status : DayNames → Option Shown → ℕ → Data
status names None now = bare_data names
status names (Some shown) now = shown_data names shown now
