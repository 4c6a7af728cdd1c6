-- What the turn of one inlet makes of a desk, and what a round does. (Own.)
use Rattle.std.specs.Prelude.{◌≡◌, ℕ, ◌+◌, ◌<◌, ◌⊎◌, true, false, Some, slice_get, List, [], ◌∷◌, length}
use Rattle.gate_journal.specs.gate_law.After.{lists}
use Rattle.gate_events.specs.declared.event.Event.{Event}
use Rattle.gate_events.specs.Seen.{event_seen}
use Rattle.gate_events.specs.Sources.{is_from}
use Rattle.gate_core.specs.Targets.{client_for, port_for}
use Rattle.gate_journal.specs.Kept.{turns}
use Rattle.desk_steps.specs.Recorded.{IsKeptStep, Recorded}
use Rattle.desk_side.specs.desk_rings.CoreEnds.{InletConsumerState, ConsumerGave, ConsumerLooked, OutletProducerState}
use Rattle.desk_side.specs.desk_rings.CoreEnds.{ProducersLooked}
use Rattle.desk_side.specs.declared.batch_output.BatchOutput.{BatchOutput}
use Rattle.desk_side.specs.Side.{ChangesAt, HaveRoom, LacksRoom, SideState, OutputSent}
use Rattle.desk_steps.specs.Agreeing.{DeskState}
use Rattle.desk_steps.specs.Reserved.{reserved}
use Rattle.desk_steps.specs.Settling.{KnowsNone}
use Rattle.desk_steps.specs.declared.turned.Did.{Did}
use Rattle.desk_steps.specs.declared.turned.Did.TheVariants.{Idle, Dropped, Held, Stepped, Refused}
use Rattle.desk_steps.specs.declared.turned.Turned.{Turned}

-- the same clients and ports
abbrev pub SameCounts : SideState → SideState → Type 0
SameCounts s t = (t.clients ≡ s.clients) × (t.ports ≡ s.ports)

-- The desk looked at an inlet's ring and at those of outlets: it may know of more events there and of more room, and
-- nothing else changed.
pub record Looks (k : ℕ) (s t : DeskState) : Type 0 where
  pub recorded : t.recorded ≡ s.recorded
  pub consumers : ChangesAt k ConsumerLooked s.side.consumers t.side.consumers
  pub producers : ProducersLooked s.side.producers t.side.producers
  pub counts : SameCounts s.side t.side

-- The first event of an inlet's ring, of the inlet's source, is stepped: it comes out of the ring, it is kept with its
-- batch, and what that tells goes into the rings of its recipients.
pub record StepsFirst (k : ℕ) (s t : DeskState) : Type 0 where
  pub event : Event
  pub output : BatchOutput
  pub consumer : InletConsumerState
  pub there : slice_get s.side.consumers k ≡ Some consumer
  pub own : is_from consumer.name.source event ≡ true
  pub step : IsKeptStep event output s.recorded t.recorded
  pub consumers : ChangesAt k (ConsumerGave event) s.side.consumers t.side.consumers
  pub producers : OutputSent output s.side.producers t.side.producers
  pub counts : SameCounts s.side t.side

-- The first event of an inlet's ring isn't of the inlet's source: it comes out of the ring and is dropped.
pub record Drops (k : ℕ) (s t : DeskState) : Type 0 where
  pub event : Event
  pub consumer : InletConsumerState
  pub there : slice_get s.side.consumers k ≡ Some consumer
  pub foreign : is_from consumer.name.source event ≡ false
  pub recorded : t.recorded ≡ s.recorded
  pub consumers : ChangesAt k (ConsumerGave event) s.side.consumers t.side.consumers
  pub producers : t.side.producers ≡ s.side.producers
  pub counts : SameCounts s.side t.side

-- The first event of an inlet's ring, of the inlet's source, waits: in the ring of somebody to whom its batch may tell
-- something are no more places than it leaves free (`producer_room`: of those that only clients' events use, a long
-- list takes more than one).
pub record Waits (k : ℕ) (s : DeskState) : Type 0 where
  pub event : Event
  pub consumer : InletConsumerState
  pub there : slice_get s.side.consumers k ≡ Some consumer
  pub first : slice_get consumer.known 0 ≡ Some event
  pub own : is_from consumer.name.source event ≡ true
  pub held : LacksRoom (reserved (event_seen event))
      (client_for s.recorded.settings (event_seen event) (lists s.recorded.settings (turns s.recorded.kept)))
      (port_for s.recorded.settings (event_seen event)) s.side.producers

-- The first event of an inlet's ring has room: in the ring of each to whom its batch may tell something are more places
-- than it leaves free (`producer_room`), or its producer has overflowed.
pub record HasRoom (k : ℕ) (s : DeskState) : Type 0 where
  pub event : Event
  pub consumer : InletConsumerState
  pub there : slice_get s.side.consumers k ≡ Some consumer
  pub first : slice_get consumer.known 0 ≡ Some event
  pub room : HaveRoom (reserved (event_seen event))
      (client_for s.recorded.settings (event_seen event) (lists s.recorded.settings (turns s.recorded.kept)))
      (port_for s.recorded.settings (event_seen event)) s.side.producers

-- no producer has overflowed that hadn't before
abbrev pub SameOverflows : List OutletProducerState → List OutletProducerState → Type 0
SameOverflows old new = (d : ℕ) (w v : OutletProducerState) → slice_get old d ≡ Some w → slice_get new d ≡ Some v
    → v.overflowed ≡ w.overflowed

-- what became of an inlet's turn
abbrev pub Does : ℕ → Did → DeskState → DeskState → Type 0
Does k Idle s t = Looks k s t × KnowsNone k t.side.consumers
Does k Dropped s t = (m : DeskState) × Looks k s m × Drops k m t
Does k Held s t = Looks k s t × Waits k t
Does k Stepped s t =
    (m : DeskState) × Looks k s m × StepsFirst k m t × SameOverflows m.side.producers t.side.producers × HasRoom k m
Does k Refused s t = Looks k s t × HasRoom k t

-- the turns of the first inlets, one after another, the newest first
abbrev pub Went : DeskState → List Did → DeskState → Type 0
Went s [] t = t ≡ s
Went s (did ∷ dids) t = (m : DeskState) × Went s dids m × Does (length dids) did m t

-- how many steps were made, how many events were left for a full outlet, and for how many memory was refused
abbrev pub counted : List Did → Turned
counted [] = record { steps = 0; held = 0; refused = 0 }
counted (Idle ∷ dids) = counted dids
counted (Dropped ∷ dids) = counted dids
counted (Held ∷ dids) = record (counted dids) { held = (counted dids).held + 1 }
counted (Stepped ∷ dids) = record (counted dids) { steps = (counted dids).steps + 1 }
counted (Refused ∷ dids) = record (counted dids) { refused = (counted dids).refused + 1 }

-- A round: each inlet had its turn, and a step was made, or memory was refused for no event.
pub record Rounds (turned : Turned) (s t : DeskState) : Type 0 where
  pub dids : List Did
  pub went : Went s dids t
  pub counts : turned ≡ counted dids
  pub all : length dids ≡ length s.side.consumers
  pub end : (0 < turned.steps) ⊎ (turned.refused ≡ 0)

-- A round in which memory was refused for an event, and no step was made.
pub record RoundIsRefused (s t : DeskState) : Type 0 where
  pub dids : List Did
  pub went : Went s dids t
  pub all : length dids ≡ length s.side.consumers
  pub none : (counted dids).steps ≡ 0
  pub some : 0 < (counted dids).refused
