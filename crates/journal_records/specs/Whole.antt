-- What every event and every batch keeps, and what can be written of them.
use Rattle.std.specs.Prelude.{◌≡◌, ◌≤◌, ◌<◌, ◌^◌, ℕ, List, [], ◌∷◌, length, Option, Some, None, is_some}
use Rattle.journal_pages.specs.fix_fields.Field.{AreFields, Message, fields_text}
use Rattle.gate_law.specs.Events.{Batch, LinkOut, Write, Close, is_for_client, is_for_port}
use Rattle.gate_events.specs.declared.event.Event.{Event}
use Rattle.journal_pages.specs.Ordered.{IsWritable}
use Rattle.journal_pages.specs.Record.{longest_frame, payload_limit}
use Rattle.journal_records.specs.Events.{AreItsFields, event_record}
use Rattle.journal_records.specs.Parts.{named_number}

-- the fields of each report are ones that can be written
abbrev pub AreReports : List Message → Type 0
AreReports [] = Unit {0}
AreReports (report ∷ reports) = AreFields report × AreReports reports

-- a number is from 1
abbrev pub IsFromOne : Option ℕ → Type 0
IsFromOne None = Unit {0}
IsFromOne (Some n) = 1 ≤ n

-- A batch names a client just where something is for one, and a port likewise.
pub record IsWholeBatch (b : Batch) : Type 0 where
  pub reports : AreReports b.reports
  pub client : is_some b.client ≡ is_for_client b
  pub client_number : IsFromOne b.client
  pub port : is_some b.port ≡ is_for_port b
  pub port_number : IsFromOne b.port

-- ---- what can be written

abbrev pub Each : {X : Type 0} → (X → Type 0) → List X → Type 0
Each P [] = Unit {0}
Each P (x ∷ xs) = P x × Each P xs

pub record IsFrame (frame : Message) : Type 0 where
  pub fields : AreFields frame
  pub few : length (fields_text frame) ≤ longest_frame

pub record IsShortReport (report : Message) : Type 0 where
  pub fields : AreFields report
  pub few : length (fields_text report) < payload_limit

abbrev pub IsShortOut : LinkOut → Type 0
IsShortOut (Write link bytes) = (link < 2 ^ 64) × (length bytes < payload_limit)
IsShortOut (Close link) = link < 2 ^ 64

pub record IsFitBatch (b : Batch) : Type 0 where
  pub whole : IsWholeBatch b
  pub reports : Each IsShortReport b.reports
  pub client_out : Each IsShortOut b.client_out
  pub port_out : Each IsShortOut b.port_out
  pub client : named_number b.client < 2 ^ 16
  pub port : named_number b.port < 2 ^ 16

-- an event and its batch
pub record IsTurn (e : Event) (b : Batch) : Type 0 where
  pub writable : IsWritable (event_record e)
  pub fields : AreItsFields e
  pub batch : IsFitBatch b
