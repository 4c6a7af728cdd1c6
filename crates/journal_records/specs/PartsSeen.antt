-- What was read of a batch so far, as the definitions see it.
use Rattle.std.specs.Prelude.{map}
use Rattle.gate_events.specs.Seen.{link_out_seen}
use Rattle.journal_records.specs.declared.parts.BatchParts.{BatchParts}
use Rattle.journal_records.specs.Reading.{BatchSaid}

abbrev pub parts_seen : BatchParts → BatchSaid
parts_seen p = record {
  client = p.client;
  reports = p.reports.items;
  client_out = map link_out_seen p.client_out.items;
  port = p.port;
  port_out = map link_out_seen p.port_out.items;
  fault = p.fault;
}
