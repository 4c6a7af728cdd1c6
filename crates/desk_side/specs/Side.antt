-- What contracts see of the desk's side of its rings, and what its calls make of it. (Own.)
use Rattle.std.specs.Prelude.{◌≡◌, ◌≢◌, ℕ, ◌+◌, ◌<◌, ◌≤◌, ◌⊎◌, true, false, Option, Some, slice_get, length, List}
use Rattle.gate_events.specs.Sources.{unless_empty}
use Rattle.desk_rings.specs.CoreEnds.{KnowsRoom, InletConsumerState, OutletProducerState, ProducerSent, producer_room}
use Rattle.desk_side.specs.declared.batch_output.BatchOutput.{BatchOutput}
use Rattle.desk_side.specs.BatchOutput.{list_for}
use Rattle.desk_side.specs.Places.{is_aimed, recipient_at, source_at}

-- its consumers and producers, by position
pub record SideState : Type 0 where
  pub clients : ℕ
  pub ports : ℕ
  pub consumers : List InletConsumerState
  pub producers : List OutletProducerState

-- there is a consumer for each client, each port and the clock, and a producer for each client and each port, in this
-- order
pub record IsArranged (s : SideState) : Type 0 where
  pub sources : (k : ℕ) (a : InletConsumerState) → slice_get s.consumers k ≡ Some a
      → a.name.source ≡ source_at s.clients s.ports k
  pub consumer_count : length s.consumers ≡ s.clients + s.ports + 1
  pub recipients : (d : ℕ) (w : OutletProducerState) → slice_get s.producers d ≡ Some w
      → w.name.to ≡ recipient_at s.clients d
  pub producer_count : length s.producers ≡ s.clients + s.ports

-- one element changed as P says, and the others stayed
pub record ChangesAt {A : Type 0} (i : ℕ) (P : A → A → Type 0) (old new : List A) : Type 0 where
  pub count : length new ≡ length old
  pub others : (k : ℕ) → k ≢ i → slice_get new k ≡ slice_get old k
  pub there : (x : A) → slice_get old i ≡ Some x → (y : A) × (slice_get new i ≡ Some y) × P x y

-- each producer whose recipient is told something took it, or overflowed
pub record OutputSent (output : BatchOutput) (old new : List OutletProducerState) : Type 0 where
  pub count : length new ≡ length old
  pub each : (d : ℕ) (w : OutletProducerState) → slice_get old d ≡ Some w
      → (v : OutletProducerState) × (slice_get new d ≡ Some v)
      × ProducerSent (unless_empty (list_for w.name.to output)) w v

-- The producers of this client and of this port know of room beside so many reserved places, or have overflowed. A long
-- list that lies there counts for more places.
abbrev pub HaveRoom : ℕ → Option ℕ → Option ℕ → List OutletProducerState → Type 0
HaveRoom reserved client port producers = (d : ℕ) (w : OutletProducerState) → slice_get producers d ≡ Some w
    → is_aimed client port w.name.to ≡ true → (w.overflowed ≡ true) ⊎ (reserved < producer_room w)

-- each producer has room for so many lists, or has overflowed
abbrev pub AllKnowRoom : ℕ → List OutletProducerState → Type 0
AllKnowRoom count producers = (d : ℕ) (w : OutletProducerState) → slice_get producers d ≡ Some w → KnowsRoom count w

-- one of them hasn't overflowed and knows of no such room
abbrev pub LacksRoom : ℕ → Option ℕ → Option ℕ → List OutletProducerState → Type 0
LacksRoom reserved client port producers = (d : ℕ) × (w : OutletProducerState) × (slice_get producers d ≡ Some w)
    × (is_aimed client port w.name.to ≡ true) × (w.overflowed ≡ false) × (producer_room w ≤ reserved)
