-- What a desk is, and what it keeps: its core with the history, and its ends of the rings, agree. (Own.)
use Rattle.std.specs.Prelude.{◌≡◌, ◌≢◌, ℕ, ◌<◌, ◌^◌, true, false, Some, slice_get, List, length, map}
use mathlib.Core.List.{IsPrefix}
use Rattle.gate_journal.specs.gate_law.Events.{LinkOut}
use Rattle.gate_events.specs.declared.event.Event.{Event}
use Rattle.gate_events.specs.Sources.{events_from, is_from, is_same_source}
use Rattle.gate_journal.specs.Kept.{lists_kept}
use Rattle.desk_steps.specs.Recorded.{Recorded}
use Rattle.desk_side.specs.desk_rings.Rings.{NamedInlet, NamedOutlet}
use Rattle.desk_side.specs.desk_rings.CoreEnds.{InletConsumerState, OutletProducerState, consumer_name, producer_name}
use Rattle.desk_side.specs.Side.{SideState}

-- a desk: the core with its history, and the desk's side of the rings
pub record DeskState : Type 0 where
  pub recorded : Recorded
  pub side : SideState

-- no two inlets are of one source
abbrev pub AreApart : List NamedInlet → Type 0
AreApart inlets = (j k : ℕ) (a b : NamedInlet) → slice_get inlets j ≡ Some a → slice_get inlets k ≡ Some b → j ≢ k
    → is_same_source a.source b.source ≡ false

-- each event is of the source of an inlet
abbrev pub AreNamed : List NamedInlet → List Event → Type 0
AreNamed inlets events = (i : ℕ) (e : Event) → slice_get events i ≡ Some e
    → (k : ℕ) × (a : NamedInlet) × (slice_get inlets k ≡ Some a) × (is_from a.source e ≡ true)

-- all lists that there were for it went into the ring, or a beginning of them once it has overflowed
abbrev pub Follows : OutletProducerState → List (List LinkOut) → Type 0
Follows w lists = IsPrefix w.sent lists × (w.overflowed ≡ false → w.sent ≡ lists)

-- The ends are those that are named; what came out of an inlet's ring is, of its source, what the history has of that;
-- the history has no events of others; and what went into an outlet's ring is what the batches told.
pub record Agrees (inlets : List NamedInlet) (outlets : List NamedOutlet) (s : DeskState) : Type 0 where
  pub consumer_names : map consumer_name s.side.consumers ≡ inlets
  pub producer_names : map producer_name s.side.producers ≡ outlets
  pub apart : AreApart inlets
  pub few : length inlets < 2 ^ 32
  pub from_all : (k : ℕ) (a : InletConsumerState) → slice_get s.side.consumers k ≡ Some a
      → events_from a.name.source s.recorded.kept.events ≡ events_from a.name.source a.gave
  pub to_all : (d : ℕ) (w : OutletProducerState) → slice_get s.side.producers d ≡ Some w
      → Follows w (lists_kept w.name.to s.recorded.kept)
  pub named : AreNamed inlets s.recorded.kept.events
