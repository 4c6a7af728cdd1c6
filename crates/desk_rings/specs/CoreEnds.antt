-- What contracts see of the ends that the desk keeps: a consumer gives the events of an inlet's ring, a producer puts
-- lists into an outlet's ring. (Own.)
use Rattle.std.specs.Prelude.{◌≡◌, ◌≢◌, ℕ, ◌+◌, ◌<◌, ◌≤◌, ◌⊎◌, Bool, true, false, Option, Some, slice_get, length, List}
use Rattle.std.specs.Prelude.{[], ◌∷◌, ◌++◌}
use mathlib.Core.List.{IsPrefix}
use Rattle.gate_law.specs.Events.{LinkOut}
use Rattle.gate_events.specs.declared.event.Event.{Event}
use Rattle.gate_events.specs.Sources.{events_from}
use Rattle.desk_rings.specs.Sizes.{all_more, room_beside}
use Rattle.desk_rings.specs.Rings.{NamedInlet, NamedOutlet, Done, put_at, took_at}

-- a consumer: every event that it gave, and those that it knows to lie in the ring
pub record InletConsumerState : Type 0 where
  pub name : NamedInlet
  pub gave : List Event
  pub known : List Event

-- a producer: every list that was sent by it, those of them that were released into the ring, whether lists wait beside
-- the ring until then, how many lists its ring holds, for how many more it knows room, for how many places more those
-- count that may lie there, and whether it has overflowed: then a list for its recipient wasn't sent, and none is any
-- more
pub record OutletProducerState : Type 0 where
  pub name : NamedOutlet
  pub sent : List (List LinkOut)
  pub released : List (List LinkOut)
  pub stages : Bool
  pub places : ℕ
  pub free : ℕ
  pub more : ℕ
  pub overflowed : Bool

abbrev pub consumer_name : InletConsumerState → NamedInlet
consumer_name a = a.name

abbrev pub producer_name : OutletProducerState → NamedOutlet
producer_name w = w.name

-- a consumer that looked may know of more events
abbrev pub ConsumerLooked : InletConsumerState → InletConsumerState → Type 0
ConsumerLooked a b = (b.name ≡ a.name) × (b.gave ≡ a.gave) × IsPrefix a.known b.known

-- a consumer that gave this event
abbrev pub ConsumerGave : Event → InletConsumerState → InletConsumerState → Type 0
ConsumerGave e a b = (b.name ≡ a.name) × (b.gave ≡ a.gave ++ e ∷ []) × (a.known ≡ e ∷ b.known)

-- for how many lists more of a client's own events it knows room: long ones that lie there take more than a place
abbrev pub producer_room : OutletProducerState → ℕ
producer_room w = room_beside w.free w.more

-- A producer that looked may know of more room. What its lists count for stays, or is nothing any more: then none lies
-- there.
abbrev pub ProducerLooked : OutletProducerState → OutletProducerState → Type 0
ProducerLooked w v = (v.name ≡ w.name) × (v.sent ≡ w.sent) × (v.overflowed ≡ w.overflowed) × (w.free ≤ v.free)
    × (v.released ≡ w.released) × (v.stages ≡ w.stages) × (v.places ≡ w.places)
    × ((v.more ≡ w.more) ⊎ ((v.more ≡ 0) × (v.places ≤ v.free)))

-- a producer that may stage from now on
abbrev pub ProducerMayStage : OutletProducerState → OutletProducerState → Type 0
ProducerMayStage w v = (v.name ≡ w.name) × (v.sent ≡ w.sent) × (v.overflowed ≡ w.overflowed) × (w.free ≤ v.free)
    × (v.released ≡ w.released) × (w.stages ≡ true → v.stages ≡ true)
    × (v.places ≡ w.places) × (v.more ≡ w.more)

-- a producer that stages: what was released is a beginning of what was sent
abbrev pub IsStaging : OutletProducerState → Type 0
IsStaging w = (w.stages ≡ true) × IsPrefix w.released w.sent

-- a producer of which more may be released
abbrev pub ProducerMayRelease : OutletProducerState → OutletProducerState → Type 0
ProducerMayRelease w v = (v.name ≡ w.name) × (v.sent ≡ w.sent) × (v.overflowed ≡ w.overflowed) × (w.free ≤ v.free)
    × (v.stages ≡ w.stages) × (v.places ≡ w.places) × (v.more ≡ w.more)

-- Lists were for a producer. It took them, or it has overflowed and took none; it doesn't overflow by them where it
-- knew of room, nor where there were none. It knows of room for one list less at the worst. What it took counts by its
-- length, up to more than can be counted. Where it stages none is released.
pub record ProducerSent (lists : List (List LinkOut)) (w v : OutletProducerState) : Type 0 where
  pub name : v.name ≡ w.name
  pub whole : v.overflowed ≡ false → (w.overflowed ≡ false) × (v.sent ≡ w.sent ++ lists)
  pub lost : v.overflowed ≡ true → v.sent ≡ w.sent
  pub stays : ((0 < w.free) ⊎ (lists ≡ [])) → v.overflowed ≡ w.overflowed
  pub takes : w.free ≤ v.free + 1
  pub most : v.more ≤ w.more + all_more lists
  pub counts : v.overflowed ≡ false → (v.more ≡ w.more + all_more lists) ⊎ (v.more ≡ 18_446_744_073_709_551_615)
  pub stages : v.stages ≡ w.stages
  pub waits : w.stages ≡ true → v.released ≡ w.released
  pub places : v.places ≡ w.places

-- a producer has room for so many lists, or has overflowed: then it needs none
abbrev pub KnowsRoom : ℕ → OutletProducerState → Type 0
KnowsRoom count w = (w.overflowed ≡ true) ⊎ (count ≤ producer_room w)

-- each consumer looked or stayed as it is
pub record ConsumersLooked (old new : List InletConsumerState) : Type 0 where
  pub count : length new ≡ length old
  pub each : (k : ℕ) (a : InletConsumerState) → slice_get old k ≡ Some a
      → (b : InletConsumerState) × (slice_get new k ≡ Some b)
      × ConsumerLooked a b

-- no consumer but the one at this place changed
abbrev pub ConsumersStayBut : Option ℕ → List InletConsumerState → List InletConsumerState → Type 0
ConsumersStayBut place old new = (k : ℕ) → place ≢ Some k → slice_get new k ≡ slice_get old k

pub record ProducersLooked (old new : List OutletProducerState) : Type 0 where
  pub count : length new ≡ length old
  pub each : (d : ℕ) (w : OutletProducerState) → slice_get old d ≡ Some w
      → (v : OutletProducerState) × (slice_get new d ≡ Some v)
      × ProducerLooked w v

-- each producer may stage from now on
pub record ProducersMayStage (old new : List OutletProducerState) : Type 0 where
  pub count : length new ≡ length old
  pub each : (d : ℕ) (w : OutletProducerState) → slice_get old d ≡ Some w
      → (v : OutletProducerState) × (slice_get new d ≡ Some v)
      × ProducerMayStage w v

-- each producer stages
abbrev pub AllStage : List OutletProducerState → Type 0
AllStage producers = (d : ℕ) (w : OutletProducerState) → slice_get producers d ≡ Some w → IsStaging w

-- more may be released of each producer
pub record ProducersMayRelease (old new : List OutletProducerState) : Type 0 where
  pub count : length new ≡ length old
  pub each : (d : ℕ) (w : OutletProducerState) → slice_get old d ≡ Some w
      → (v : OutletProducerState) × (slice_get new d ≡ Some v)
      × ProducerMayRelease w v

-- all that was sent by each producer is released
abbrev pub AllReleased : List OutletProducerState → Type 0
AllReleased producers = (d : ℕ) (w : OutletProducerState) → slice_get producers d ≡ Some w → w.released ≡ w.sent

-- What an end that has finished says is what the desk's end of its ring knows: an inlet put what came out and what is
-- known to lie there still, and an outlet took a beginning of what was sent, and of what was released.
abbrev pub IsBorneOut : Done → List InletConsumerState → List OutletProducerState → Type 0
IsBorneOut (put_at k source events) consumers producers =
    (a : InletConsumerState) × (slice_get consumers k ≡ Some a) × (a.name.source ≡ source)
    × (a.gave ++ a.known ≡ events) × (events_from source events ≡ events)
IsBorneOut (took_at d to lists) consumers producers =
    (w : OutletProducerState) × (slice_get producers d ≡ Some w) × (w.name.to ≡ to) × IsPrefix lists w.sent
    × IsPrefix lists w.released
