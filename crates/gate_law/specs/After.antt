-- The lists after an event with its batch, and after a whole history.
use Rattle.std.specs.Prelude.{ℕ, ◌^◌, Bool, false, nat_lt, List, [], ◌∷◌, length, Option, Some, None, if◌then◌else◌}
use Rattle.std.specs.List.{list_any}
use Rattle.order_law.specs.History as orders
use Rattle.gate_law.specs.Settings.{Settings}
use Rattle.gate_law.specs.Events.{Event, LinkOut, Write, Close, Batch, History, is_the_number}
use Rattle.gate_law.specs.Lists.{Lists, nothing_yet, client_called_all, port_called_all, client_linked, port_linked}
use Rattle.gate_law.specs.Lists.{turned}
use Rattle.gate_law.specs.Outcome.{LinkMove, Stays, Comes, Goes, Refused, Outcome, outcome}

-- ---- links come and go

abbrev pub client_moved : ℕ → LinkMove → Lists → Lists
client_moved client Stays v = v
client_moved client (Comes link) v = client_linked client (Some link) v
client_moved client Goes v = client_linked client None v
client_moved client (Refused link) v = v

abbrev pub port_moved : ℕ → LinkMove → Lists → Lists
port_moved p Stays v = v
port_moved p (Comes link) v = port_linked p (Some link) v
port_moved p Goes v = port_linked p None v
port_moved p (Refused link) v = v

-- ---- an event

-- its calls and its turn are added, and its link comes or goes
abbrev pub with_outcome : Outcome → Lists → Lists
with_outcome o v =
    port_called_all o.port o.port_calls (port_moved o.port o.port_link
    (client_called_all o.client o.client_calls (client_moved o.client o.client_link
    (turned o.turn v))))

-- A link that the batch closes is current no longer.
abbrev pub is_close : Option ℕ → LinkOut → Bool
is_close current (Write link bytes) = false
is_close current (Close link) = is_the_number link current

abbrev pub unless_closed : List LinkOut → Option ℕ → Option ℕ
unless_closed outs current = if list_any (is_close current) outs then None else current

abbrev pub links_closed : Batch → Lists → Lists
links_closed b v = record v {
  client_link = λ c. if is_the_number c b.client then unless_closed b.client_out (v.client_link c) else v.client_link c;
  port_link = λ p. if is_the_number p b.port then unless_closed b.port_out (v.port_link p) else v.port_link p;
}

-- the lists after an event with its batch
abbrev pub lists_after : Settings → Event → Batch → Lists → Lists
lists_after s e b v = links_closed b (with_outcome (outcome s e b v) v)

-- ---- a history

-- so many events are stepped; any that comes later changes nothing
abbrev pub most_events : ℕ
most_events = 2 ^ 48

abbrev pub is_within_day : History → Bool
is_within_day before = nat_lt (length before) most_events

abbrev pub lists : Settings → History → Lists
lists s [] = nothing_yet
lists s (t ∷ before) = if is_within_day before then lists_after s t.event t.batch (lists s before) else lists s before

-- the history of the order level
abbrev pub order_turns : Settings → History → orders.OrderHistory
order_turns s h = (lists s h).turns
