-- The batch that records say, behind the record of its event.
use Rattle.std.specs.Prelude.{ℕ, ◌==◌, Bool, true, false, List, [], ◌∷◌, ◌++◌, Option, Some, None, if◌then◌else◌}
use Rattle.journal_pages.specs.fix_fields.Field.{Message}
use Rattle.soup_session.specs.declared.port_fault.PortFault.{PortFault}
use Rattle.soup_session.specs.declared.port_fault.PortFault.TheVariants.{StrangePacket, UnknownToken}
use Rattle.soup_session.specs.declared.port_fault.PortFault.TheVariants.{NotLawful}
use Rattle.soup_session.specs.declared.port_fault.PortFault.TheVariants.{OutsideProfile, SequenceGap}
use Rattle.soup_session.specs.declared.port_fault.PortFault.TheVariants.{OtherSession}
use Rattle.gate_law.specs.Events.{Batch, LinkOut, Write, Close}
use Rattle.gate_events.specs.Batches.{batch_of}
use Rattle.journal_pages.specs.declared.kind.RecordKind.{RecordKind}
use Rattle.journal_pages.specs.declared.kind.RecordKind.TheVariants as kinds
use Rattle.journal_pages.specs.Record.{Record}
use Rattle.journal_records.specs.Events.{payload_fields}

-- the fault of a number
abbrev pub fault_numbered : ℕ → Option PortFault
fault_numbered n =
    if n == 1 then Some StrangePacket
    else if n == 2 then Some UnknownToken
    else if n == 3 then Some NotLawful
    else if n == 4 then Some OutsideProfile
    else if n == 5 then Some SequenceGap
    else if n == 6 then Some OtherSession
    else None

abbrev pub fault_in_payload : List ℕ → Option PortFault
fault_in_payload (n ∷ []) = fault_numbered n
fault_in_payload other = None

-- what was said of a batch so far: the number of its client or port is 0 as long as none was named
pub record BatchSaid : Type 0 where
  pub client : ℕ
  pub reports : List Message
  pub client_out : List LinkOut
  pub port : ℕ
  pub port_out : List LinkOut
  pub fault : Option PortFault

abbrev pub nothing_said : BatchSaid
nothing_said = record { client = 0; reports = []; client_out = []; port = 0; port_out = []; fault = None }

abbrev pub saying_report : ℕ → Message → BatchSaid → BatchSaid
saying_report client report s = record s { client = client; reports = s.reports ++ report ∷ [] }

abbrev pub saying_client_out : ℕ → LinkOut → BatchSaid → BatchSaid
saying_client_out client out s = record s { client = client; client_out = s.client_out ++ out ∷ [] }

abbrev pub saying_port_out : ℕ → LinkOut → BatchSaid → BatchSaid
saying_port_out port out s = record s { port = port; port_out = s.port_out ++ out ∷ [] }

abbrev pub saying_fault : ℕ → Option PortFault → BatchSaid → BatchSaid
saying_fault port fault s = record s { port = port; fault = fault }

-- what is said with one record more
abbrev pub said_more : RecordKind → Record → BatchSaid → BatchSaid
said_more kinds.Report r s = saying_report r.source (payload_fields r.payload) s
said_more kinds.ClientWrite r s = saying_client_out r.source (Write r.link r.payload) s
said_more kinds.ClientClose r s = saying_client_out r.source (Close r.link) s
said_more kinds.PortWrite r s = saying_port_out r.source (Write r.link r.payload) s
said_more kinds.PortClose r s = saying_port_out r.source (Close r.link) s
said_more kinds.Fault r s = saying_fault r.source (fault_in_payload r.payload) s
said_more other r s = s

-- a record of this kind is part of a batch, and not its end
abbrev pub is_part : RecordKind → Bool
is_part kinds.Report = true
is_part kinds.ClientWrite = true
is_part kinds.ClientClose = true
is_part kinds.PortWrite = true
is_part kinds.PortClose = true
is_part kinds.Fault = true
is_part other = false

-- what records say up to the first that is no part
abbrev pub parts_said : BatchSaid → List Record → BatchSaid
parts_said s [] = s
parts_said s (r ∷ rs) = if is_part r.kind then parts_said (said_more r.kind r s) rs else s

-- the records from the first that is no part on
abbrev pub behind_parts : List Record → List Record
behind_parts [] = []
behind_parts (r ∷ rs) = if is_part r.kind then behind_parts rs else r ∷ rs

-- the first record, where it is a part
abbrev pub first_part : List Record → Option Record
first_part [] = None
first_part (r ∷ rs) = if is_part r.kind then Some r else None

-- the number; 1 where none was named, of which a batch has nothing
abbrev pub or_one : ℕ → ℕ
or_one n = if n == 0 then 1 else n

abbrev pub batch_said : BatchSaid → Batch
batch_said s = batch_of (or_one s.client) s.reports s.client_out (or_one s.port) s.port_out s.fault

-- the batch that records say in front
abbrev pub batch_in : List Record → Batch
batch_in rs = batch_said (parts_said nothing_said rs)
