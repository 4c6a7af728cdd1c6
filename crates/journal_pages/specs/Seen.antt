-- Records that are read where they lie, and what one is written of, as the definitions see them.
use Rattle.std.specs.Prelude.{ℕ, List}
use Rattle.journal_pages.specs.declared.head.RecordHead.{RecordHead}
use Rattle.journal_pages.specs.declared.records.Records.{Records}
use Rattle.journal_pages.specs.declared.view.RecordView.{RecordView}
use Rattle.journal_pages.specs.Record.{Record, records_in}

abbrev pub record_seen : RecordView → Record
record_seen v = record { kind = v.kind; source = v.source; link = v.link; at = v.at; payload = v.payload.now }

-- the record of a head and a payload
abbrev pub record_of : RecordHead → List ℕ → Record
record_of h payload = record { kind = h.kind; source = h.source; link = h.link; at = h.at; payload = payload }

-- the records that are still to be lent
abbrev pub records_ahead : Records → List Record
records_ahead r = records_in r.rest.now
