-- What callers see of the core.
use Rattle.std.specs.Prelude.{◌≡◌, ℕ, ◌≤◌, List, [], ◌∷◌, length, if◌then◌else◌}
use Rattle.gate_law.specs.Settings.{Settings}
use Rattle.gate_law.specs.Events as law
use Rattle.gate_law.specs.Events.{History}
use Rattle.gate_law.specs.After.{is_within_day, lists, most_events}
use Rattle.gate_law.specs.Holds.{Holds}
use Rattle.gate_events.specs.declared.event.Event.{Event}
use Rattle.gate_events.specs.declared.batch.Batch.{Batch}
use Rattle.gate_events.specs.Seen.{batch_seen, event_seen}
use Rattle.gate_core.specs.State.{AreSound, PartsStand, StandAfter}

-- how it stands: its parts, and how many events were stepped
pub record CoreStands : Type 0 where
  pub parts : PartsStand
  pub events : ℕ

-- how it stands now, and how it stood when it was settled last: before the step that came last
pub record CoreState : Type 0 where
  pub now : CoreStands
  pub settled : CoreStands

-- it has what every step needs, whatever came before
pub record IsSound (c : CoreStands) : Type 0 where
  pub few : c.events ≤ most_events
  pub parts : AreSound c.events c.parts

-- so many events of a history are stepped
abbrev pub stepped : History → ℕ
stepped h = if is_within_day h then length h else most_events

-- A core stands as these turns, the newest first, leave it: all that is promised holds of them, its parts are what they
-- leave, and it has counted the events that were stepped.
pub record After (s : Settings) (h : History) (c : CoreStands) : Type 0 where
  pub holds : Holds s h
  pub parts : StandAfter s (lists s h) c.parts
  pub count : c.events ≡ stepped h

unfoldable pub IsAfter : Settings → History → CoreState → Type 0
IsAfter s h c = After s h c.now

-- an event with its batch
abbrev pub turn_of : Event → Batch → law.Turn
turn_of e b = record { event = event_seen e; batch = batch_seen b }

-- events with their batches, the newest first, after the turns before
abbrev pub onto : List Event → List Batch → History → History
onto [] batches before = before
onto (e ∷ events) [] before = before
onto (e ∷ events) (b ∷ batches) before = onto events batches (turn_of e b ∷ before)

abbrev pub history : List Event → List Batch → History
history events batches = onto events batches []
