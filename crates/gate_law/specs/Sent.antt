-- What a port was asked and sent since it came up: one for one.
use Rattle.std.specs.Prelude.{◌≡◌, ℕ, ◌==◌, Bool, true, false, ◌&&◌, ◌⊎◌, List, [], ◌∷◌, ◌++◌, Option, Some, None}
use Rattle.std.specs.Prelude.{if◌then◌else◌}
use Rattle.soup_session.specs.States.{is_up}
use Rattle.order_law.specs.History.{Terms, Asked, OrderTurn, OrderHistory, accepted, issued, handled, entry_at, asks_of}
use Rattle.order_law.specs.History.{outstanding}
use Rattle.order_law.specs.Headline.{EachWith, HasTokens}
use Rattle.gate_law.specs.Settings.{Settings, terms}
use Rattle.gate_law.specs.Events.{Event, Batch, History, is_the_number}
use Rattle.gate_law.specs.Lists.{Lists}
use Rattle.gate_law.specs.Sessions.{port_state}
use Rattle.gate_law.specs.Outcome.{messages, outcome, is_stepped}
use Rattle.gate_law.specs.After.{lists, order_turns, is_within_day}
use Rattle.gate_law.specs.Promises.{comes_up, port_in}

-- ---- sent

-- the messages of a batch that go to this port
abbrev pub sent_by : ℕ → Batch → List (List ℕ)
sent_by p b = if is_the_number p b.port then messages b else []

-- this port comes up by the event
abbrev pub brings_up : Settings → ℕ → Event → Lists → Bool
brings_up s p e v = comes_up s e v && ((port_in e == p) && is_stepped s e v)

-- the messages that a port was sent since it last came up, by the batches alone, in order
abbrev pub sent_since_up : Settings → ℕ → History → List (List ℕ)
sent_since_up s p [] = []
sent_since_up s p (t ∷ before) = (if is_within_day before && brings_up s p t.event (lists s before) then []
    else sent_since_up s p before) ++ sent_by p t.batch

-- ---- asked

-- what a turn of the order level asks of this port
abbrev pub asked_by : List Terms → ℕ → Option OrderTurn → OrderHistory → List Asked
asked_by terms p None before = []
asked_by terms p (Some t) before = asks_of terms p (entry_at terms t.event before) (accepted terms before)
    (issued t.client before) (handled p before)

-- what an event asks of it
abbrev pub asked_at : Bool → Settings → ℕ → Event → Batch → Lists → List Asked
asked_at true s p e b v = asked_by (terms s) p (outcome s e b v).turn v.turns
asked_at false s p e b v = []

-- What a port was asked since it last came up, in order: what was outstanding on it then, and what each event since
-- then asks of it. What was answered since then is among it still.
abbrev pub asked_since_up : Settings → ℕ → History → List Asked
asked_since_up s p [] = []
asked_since_up s p (t ∷ before) = (if is_within_day before && brings_up s p t.event (lists s before)
    then outstanding (terms s) p (order_turns s before) else asked_since_up s p before)
    ++ asked_at (is_within_day before) s p t.event t.batch (lists s before)

-- ---- one for one

-- the message has the type and the tokens of what was asked
abbrev pub AsksFor : Asked → List ℕ → Type 0
AsksFor a m = HasTokens a.said m

-- the first list is the second without some of it, in the same order
abbrev pub IsLeftOf : {X : Type 0} → List X → List X → Type 0
IsLeftOf [] ys = Unit {0}
IsLeftOf (x ∷ xs) [] = ⊥
IsLeftOf (x ∷ xs) (y ∷ ys) = ((x ≡ y) × IsLeftOf xs ys) ⊎ IsLeftOf (x ∷ xs) ys

-- Each message that was sent asks what stands at its place in what was asked, and nothing else was sent; and what is
-- outstanding is what is left of that. So a message that was answered stands for what it asked, and for nothing that
-- is outstanding.
pub record WasSent (outstanding : List Asked) (asked : List Asked) (sent : List (List ℕ)) : Type 0 where
  pub one_for_one : EachWith AsksFor asked sent
  pub left : IsLeftOf outstanding asked

-- While a port is up, it was sent just what it was asked since it came up, each message once, and all that it is asked
-- and hasn't answered is among it.
abbrev pub AllSent : Settings → ℕ → History → Type 0
AllSent s p h = is_up (port_state s p ((lists s h).port_calls p)) ≡ true
    → WasSent (outstanding (terms s) p (order_turns s h)) (asked_since_up s p h) (sent_since_up s p h)
