-- Which ring an end belongs to, how a desk's name names it, and what contracts see of the ends that threads hold. A
-- ring's identity is what its two ends have in common. (Own.)
use Rattle.std.specs.Prelude.{ℕ, List}
use Rattle.std.specs.Global.{Global}
use denote.RawPtr.{Ptr}
use Rattle.rtrb.specs.declared.producer.Producer.{Producer}
use Rattle.rtrb.specs.declared.consumer.Consumer.{Consumer}
use Rattle.rtrb.specs.declared.finished.Finished.{Finished}
use Rattle.gate_law.specs.Events.{LinkOut}
use Rattle.gate_events.specs.declared.event.Event.{Event}
use Rattle.gate_events.specs.declared.source.Source.{Source}
use Rattle.gate_events.specs.declared.source.Recipient.{Recipient}

pub record Ring : Type 0 where
  pub words : Ptr
  pub slots : Ptr
  pub names : ℕ × (ℕ × ℕ)
  pub heap : Global

module _ {T P : Type 0} where
  abbrev pub producer_ring : Producer T Global P → Ring
  producer_ring p = record { words = p.end.words; slots = p.end.slots; names = p.end.names; heap = p.end.heap }

  abbrev pub consumer_ring : Consumer T Global P → Ring
  consumer_ring c = record { words = c.end.words; slots = c.end.slots; names = c.end.names; heap = c.end.heap }

  abbrev pub finished_ring : Finished T Global P → Ring
  finished_ring f = record { words = f.end.words; slots = f.end.slots; names = f.end.names; heap = f.end.heap }

-- whose events go through a ring
pub record NamedInlet : Type 0 where
  pub source : Source
  pub ring : Ring

-- whom the lists in a ring are for
pub record NamedOutlet : Type 0 where
  pub to : Recipient
  pub ring : Ring

-- an inlet: what was put, and for how many events more it knows room
pub record Putting : Type 0 where
  pub at : ℕ
  pub source : Source
  pub put : List Event
  pub free : ℕ

-- an outlet: what was taken, and what it knows to lie in the ring
pub record Taking : Type 0 where
  pub at : ℕ
  pub to : Recipient
  pub took : List (List LinkOut)
  pub ahead : List (List LinkOut)

-- an end that has finished: its position, and what was put or taken
pub data Done : Type 0 where
  put_at : ℕ → Source → List Event → Done
  took_at : ℕ → Recipient → List (List LinkOut) → Done
