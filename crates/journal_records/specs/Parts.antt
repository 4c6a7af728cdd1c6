-- The records of a batch, behind those of its event.
use Rattle.std.specs.Prelude.{ℕ, List, [], ◌∷◌, ◌++◌, map, Option, Some, None, unwrap_or}
use Rattle.journal_pages.specs.fix_fields.Field.{Message, fields_text}
use Rattle.soup_session.specs.declared.port_fault.PortFault.{PortFault}
use Rattle.soup_session.specs.Faults.{fault_number}
use Rattle.gate_law.specs.Events.{Batch, LinkOut, Write, Close}
use Rattle.gate_events.specs.declared.event.Event.{Event}
use Rattle.journal_pages.specs.declared.kind.RecordKind.{RecordKind}
use Rattle.journal_pages.specs.declared.kind.RecordKind.TheVariants as kinds
use Rattle.journal_pages.specs.Record.{Record}
use Rattle.journal_records.specs.Events.{event_record, record_with}

-- the number of a client or a port, 0 where there is none
abbrev pub named_number : Option ℕ → ℕ
named_number n = unwrap_or n 0

abbrev pub report_record : (at client : ℕ) → Message → Record
report_record at client report = record_with kinds.Report client 0 at (fields_text report)

-- what a link is told: what is written is of one kind, a close of another
abbrev pub out_record : (write close : RecordKind) → (at source : ℕ) → LinkOut → Record
out_record write close at source (Write link bytes) = record_with write source link at bytes
out_record write close at source (Close link) = record_with close source link at []

abbrev pub fault_records : (at port : ℕ) → Option PortFault → List Record
fault_records at port None = []
fault_records at port (Some fault) = record_with kinds.Fault port 0 at (fault_number fault ∷ []) ∷ []

abbrev pub end_record : ℕ → Record
end_record at = record_with kinds.BatchEnd 0 0 at []

-- what is for a client
abbrev pub client_records : (at client : ℕ) → List Message → List LinkOut → List Record
client_records at client reports outs =
    map (report_record at client) reports ++ map (out_record kinds.ClientWrite kinds.ClientClose at client) outs

-- what is for a port, and the end
abbrev pub port_records : (at port : ℕ) → List LinkOut → Option PortFault → List Record
port_records at port outs fault =
    map (out_record kinds.PortWrite kinds.PortClose at port) outs ++ (fault_records at port fault ++ end_record at ∷ [])

abbrev pub batch_records : ℕ → Batch → List Record
batch_records at b = client_records at (named_number b.client) b.reports b.client_out
    ++ port_records at (named_number b.port) b.port_out b.fault

-- an event, and what it gave
abbrev pub turn_records : Event → Batch → List Record
turn_records e b = event_record e ∷ batch_records (event_record e).at b
