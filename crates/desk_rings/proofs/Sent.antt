-- An event, and the desk's ends of its rings, may go to another thread.
use denote.RattleType.{RattleType}
use denote.Param.Send.{IsSend, sendable}
use Rattle.std.proofs.Crossing.{crosses}
use Rattle.rtrb.proofs.end.End.TheSendSync.{the_send as end_send}
use Rattle.gate_events.specs.contracts.event.Event as Event
use Rattle.gate_events.specs.contracts.output.Output as Output
use Rattle.desk_rings.specs.contracts.inlet.Inlet as Inlet
use Rattle.desk_rings.specs.contracts.outlet.Outlet as Outlet
use Rattle.desk_rings.specs.contracts.inlet_consumer.InletConsumer as InletConsumer
use Rattle.desk_rings.specs.contracts.outlet_producer.OutletProducer as OutletProducer
use Rattle.desk_rings.specs.declared.name.DeskName as DeskName

pub event_send : IsSend Event.the_row
event_send = search (sendable, crosses) depth 100 fits 500000

output_send : IsSend Output.the_row
output_send = search (sendable, crosses) depth 100 fits 500000

pub inlet_consumer_send : IsSend InletConsumer.the_row
inlet_consumer_send = search (event_send, end_send, sendable, crosses) depth 100 fits 500000

pub outlet_producer_send : IsSend OutletProducer.the_row
outlet_producer_send = search (output_send, end_send, sendable, crosses) depth 100 fits 500000

module _ (K : RattleType) (k : DeskName.Ghosts K.Denot) where
  pub inlet_send : IsSend (Inlet.the_row K k)
  inlet_send = search (event_send, end_send, sendable, crosses) depth 100 fits 500000

  pub outlet_send : IsSend (Outlet.the_row K k)
  outlet_send = search (output_send, end_send, sendable, crosses) depth 100 fits 500000
