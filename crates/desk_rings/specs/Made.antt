-- Rings that were made in a row: the desk's end of each beside the other, with nothing in them. (Own.)
use Rattle.std.specs.Prelude.{◌≡◌, List, [], map, All, false}
use Rattle.rtrb.specs.Ring.{sent, known_free, received, known_items}
use Rattle.gate_events.specs.declared.source.Source.{Source}
use Rattle.gate_events.specs.declared.source.Recipient.{Recipient}
use Rattle.desk_rings.specs.Rings.{NamedInlet, NamedOutlet, producer_ring, consumer_ring}
use Rattle.desk_rings.specs.CoreEnds.{InletConsumerState, OutletProducerState, consumer_name, producer_name}
use Rattle.desk_rings.specs.declared.rings.EventRing.{EventRing}
use Rattle.desk_rings.specs.declared.rings.OutputRing.{OutputRing}

abbrev pub inlet_name : EventRing → NamedInlet
inlet_name r = record { source = r.source; ring = producer_ring r.producer }

abbrev pub outlet_name : OutputRing → NamedOutlet
outlet_name r = record { to = r.to; ring = consumer_ring r.consumer }

-- nothing was put, and there is room for 1,024
abbrev pub IsFreshEvents : EventRing → Type 0
IsFreshEvents r = (sent r.producer ≡ []) × (known_free r.producer ≡ 1_024)

abbrev pub IsFreshLists : OutputRing → Type 0
IsFreshLists r = (received r.consumer ≡ []) × (known_items r.consumer ≡ [])

abbrev pub IsFreshProducer : OutletProducerState → Type 0
IsFreshProducer w = (w.sent ≡ []) × (w.free ≡ 2_112) × (w.overflowed ≡ false) × (w.places ≡ 2_112) × (w.more ≡ 0)

abbrev pub IsFreshConsumer : InletConsumerState → Type 0
IsFreshConsumer a = (a.gave ≡ []) × (a.known ≡ [])

-- a ring for each source, in order
pub record MadeEvents (sources : List Source) (rings : List EventRing)
    (consumers : List InletConsumerState) : Type 0 where
  pub sources_are : map (λ (r : EventRing). r.source) rings ≡ sources
  pub names : map inlet_name rings ≡ map consumer_name consumers
  pub fresh : All IsFreshEvents rings
  pub unread : All IsFreshConsumer consumers

-- a ring for each recipient, in order
pub record MadeLists (recipients : List Recipient) (producers : List OutletProducerState)
    (rings : List OutputRing) : Type 0 where
  pub recipients_are : map (λ (w : OutletProducerState). w.name.to) producers ≡ recipients
  pub names : map producer_name producers ≡ map outlet_name rings
  pub fresh : All IsFreshProducer producers
  pub unread : All IsFreshLists rings
