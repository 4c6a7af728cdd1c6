-- What is promised of every history of events and batches.
use Rattle.std.specs.Prelude.{◌≡◌, ℕ, Bool, true, false, List, [], ◌∷◌, ◌++◌, reverse, if◌then◌else◌}
use Rattle.fix_fields.specs.Field.{Message}
use Rattle.order_law.specs.History as history
use Rattle.order_law.specs.Headline.{Headline}
use Rattle.gate_law.specs.Settings.{Settings, terms}
use Rattle.gate_law.specs.Events.{Event, Batch, empty, History, is_the_number}
use Rattle.gate_law.specs.Lists.{Lists}
use Rattle.gate_law.specs.Outcome.{bodies}
use Rattle.gate_law.specs.After.{lists, order_turns, is_within_day}
use Rattle.gate_law.specs.Due.{Gives}
use Rattle.gate_law.specs.Promises.{Asks, Faults, Targets}
use Rattle.gate_law.specs.Sent.{AllSent}

abbrev pub OfTurn : Bool → Type 0 → Batch → Type 0
OfTurn true P b = P
OfTurn false P b = b ≡ empty

-- a fact of each event with its batch, and the lists before it; past the most events a batch is empty
abbrev pub EachTurn : Settings → (Event → Batch → Lists → Type 0) → History → Type 0
EachTurn s P [] = Unit {0}
EachTurn s P (t ∷ before) = OfTurn (is_within_day before) (P t.event t.batch (lists s before)) t.batch
    × EachTurn s P before

-- each batch is the one that its event gives
abbrev pub IsRun : Settings → History → Type 0
IsRun s h = EachTurn s (Gives s) h

-- what a client was told, by the batches alone, the newest first
abbrev pub told_by_batches : ℕ → History → List Message
told_by_batches client [] = []
told_by_batches client (t ∷ before) = if is_the_number client t.batch.client
    then reverse (bodies t.batch) ++ told_by_batches client before else told_by_batches client before

pub record Holds (s : Settings) (h : History) : Type 0 where
  pub run : IsRun s h
  -- each message asks what one accepted message asks, is sent once, and again only while it is unanswered
  pub asks : EachTurn s (Asks s) h
  -- the order level's promise: reports read as the market's messages, and every refusal is the table's
  pub orders : Headline (terms s) (order_turns s h)
  -- while a port is up, nothing that it is asked is left unsent
  pub sent : (p : ℕ) → AllSent s p h
  -- of reports that are those of the batches
  pub reads : (client : ℕ) → told_by_batches client h ≡ history.issued client (order_turns s h)
  -- a fault closes its port alone
  pub faults : EachTurn s (Faults s) h
  pub targets : EachTurn s (Targets s) h
