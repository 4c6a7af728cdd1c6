-- Events and batches as the law sees them.
use Rattle.std.specs.Prelude.{map}
use Rattle.gate_law.specs.Events as law
use Rattle.gate_events.specs.declared.event.Event.{Event}
use Rattle.gate_events.specs.declared.event.Event.TheVariants as events
use Rattle.gate_events.specs.declared.batch.LinkOut.{LinkOut}
use Rattle.gate_events.specs.declared.batch.LinkOut.TheVariants as outs
use Rattle.gate_events.specs.declared.batch.Batch.{Batch}

abbrev pub event_seen : Event → law.Event
event_seen (events.ClientUp client link at) = law.ClientUp client link at
event_seen (events.ClientMessage client link at frame) = law.ClientMessage client link at frame
event_seen (events.ClientGone client link at) = law.ClientGone client link at
event_seen (events.ClientTick client at) = law.ClientTick client at
event_seen (events.PortUp port link at) = law.PortUp port link at
event_seen (events.PortPacket port link at packet) = law.PortPacket port link at packet
event_seen (events.PortGone port link at) = law.PortGone port link at
event_seen (events.PortTick port at) = law.PortTick port at

abbrev pub link_out_seen : LinkOut → law.LinkOut
link_out_seen (outs.Write link bytes) = law.Write link bytes.items
link_out_seen (outs.Close link) = law.Close link

abbrev pub batch_seen : Batch → law.Batch
batch_seen b = record {
  client = b.client;
  reports = b.reports.items;
  client_out = map link_out_seen b.client_out.items;
  port = b.port;
  port_out = map link_out_seen b.port_out.items;
  fault = b.fault;
}
