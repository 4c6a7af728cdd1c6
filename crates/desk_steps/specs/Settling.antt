-- What is known of ends that have finished, once a desk is closed. (Own.)
use Rattle.std.specs.Prelude.{◌≡◌, ℕ, ◌≤◌, true, Some, slice_get, length, List, ◌++◌}
use mathlib.Core.List.{IsPrefix}
use Rattle.gate_journal.specs.gate_law.Events.{LinkOut}
use Rattle.gate_events.specs.declared.source.Recipient.{Recipient}
use Rattle.gate_events.specs.Sources.{events_from}
use Rattle.gate_journal.specs.Cut.{IsMoreOf}
use Rattle.gate_journal.specs.Kept.{Kept, lists_kept}
use Rattle.desk_steps.specs.Recorded.{Recorded}
use Rattle.desk_side.specs.desk_rings.Rings.{Done, put_at, took_at}
use Rattle.desk_side.specs.desk_rings.Ends.{inlet_of}
use Rattle.desk_side.specs.desk_rings.CoreEnds.{IsBorneOut, InletConsumerState, OutletProducerState}

-- The history has just what was put. What was taken is a beginning of what it tells, and the whole where as many lists
-- were taken.
abbrev pub IsSettled : Done → Kept → Type 0
IsSettled (put_at k source events) kept = events_from source kept.events ≡ events
IsSettled (took_at d to lists) kept = IsPrefix lists (lists_kept to kept)
    × (length lists ≡ length (lists_kept to kept) → lists ≡ lists_kept to kept)

abbrev pub AreSettled : List Done → Kept → Type 0
AreSettled finished kept = (i : ℕ) (f : Done) → slice_get finished i ≡ Some f → IsSettled f kept

-- the settings stay, and events with their batches are added at most
pub record HistoryGoesOn (old new : Recorded) : Type 0 where
  pub settings : new.settings ≡ old.settings
  pub events : IsPrefix old.kept.events new.kept.events
  pub batches : IsPrefix old.kept.batches new.kept.batches
  pub pages : IsMoreOf old.kept.pages new.kept.pages

-- a producer that stages releases nothing
abbrev pub ProducerHolds : OutletProducerState → OutletProducerState → Type 0
ProducerHolds w v = (v.name ≡ w.name) × (v.stages ≡ w.stages) × (w.stages ≡ true → v.released ≡ w.released)
    × IsPrefix w.sent v.sent

pub record ProducersHold (old new : List OutletProducerState) : Type 0 where
  pub count : length new ≡ length old
  pub each : (d : ℕ) (w : OutletProducerState) → slice_get old d ≡ Some w
      → (v : OutletProducerState) × (slice_get new d ≡ Some v)
      × ProducerHolds w v

-- what a finished outlet took is a beginning of what was released into its ring, where its producer stages
abbrev pub AreReleased : List Done → List OutletProducerState → Type 0
AreReleased finished producers = (i d : ℕ) (to : Recipient) (lists : List (List LinkOut))
    → slice_get finished i ≡ Some (took_at d to lists)
    → (w : OutletProducerState) × (slice_get producers d ≡ Some w) × (w.name.to ≡ to)
    × (w.stages ≡ true → IsPrefix lists w.released)

-- ---- on the way there

-- a consumer gave and knows all that the end says, and perhaps more
abbrev pub IsBegun : Done → List InletConsumerState → Type 0
IsBegun (put_at k source events) consumers = (a : InletConsumerState) → slice_get consumers k ≡ Some a
    → IsPrefix events (a.gave ++ a.known)
IsBegun (took_at d to lists) consumers = Unit {0}

abbrev pub AreBegun : List Done → List InletConsumerState → Type 0
AreBegun finished consumers = (i : ℕ) (f : Done) → slice_get finished i ≡ Some f → IsBegun f consumers

abbrev pub AreBorneOut : List Done → List InletConsumerState → List OutletProducerState → Type 0
AreBorneOut finished consumers producers = (i : ℕ) (f : Done) → slice_get finished i ≡ Some f
    → IsBorneOut f consumers producers

-- a consumer gave of what it was known to have, and knows the rest still
abbrev pub ConsumerShrinks : InletConsumerState → InletConsumerState → Type 0
ConsumerShrinks a b = (b.name ≡ a.name) × (b.gave ++ b.known ≡ a.gave ++ a.known) × (length b.known ≤ length a.known)

pub record Shrinks (old new : List InletConsumerState) : Type 0 where
  pub count : length new ≡ length old
  pub each : (k : ℕ) (a : InletConsumerState) → slice_get old k ≡ Some a
      → (b : InletConsumerState) × (slice_get new k ≡ Some b)
      × ConsumerShrinks a b

-- it knows of no event
abbrev pub KnowsNone : ℕ → List InletConsumerState → Type 0
KnowsNone k consumers = (a : InletConsumerState) → slice_get consumers k ≡ Some a → length a.known ≡ 0

abbrev pub AreDrained : List Done → List InletConsumerState → Type 0
AreDrained finished consumers = (i : ℕ) (f : Done) (k : ℕ) → slice_get finished i ≡ Some f → inlet_of f ≡ Some k
    → KnowsNone k consumers
