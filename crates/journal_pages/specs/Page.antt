-- A page: a name that says what it is, from version 2 on a number, and records, in an order. A page may begin and end
-- inside a batch. The format is the gateway's own; there are two versions, and pages are written in the second.
use Rattle.std.specs.Prelude.{ℕ, zero, suc, ◌==◌, Bool, true, not, ◌&&◌, ◌||◌, nat_lt, nat_le, List}
use Rattle.std.specs.Prelude.{[], ◌∷◌, length, drop, take, bytes_eq, Option, Some, None, is_none, if◌then◌else◌}
use Rattle.std.specs.Prelude.{◌++◌, codes}
use Rattle.std.specs.Int.{w64, to_be_bytes, from_be_bytes}
use Rattle.journal_pages.specs.declared.version.Version.{Version}
use Rattle.journal_pages.specs.declared.version.Version.TheVariants.{One, Two}
use Rattle.journal_pages.specs.declared.kind.RecordKind.{RecordKind}
use Rattle.journal_pages.specs.declared.kind.RecordKind.TheVariants.{Report, ClientWrite, ClientClose, PortWrite}
use Rattle.journal_pages.specs.declared.kind.RecordKind.TheVariants.{PortClose, Fault, BatchEnd}
use Rattle.journal_pages.specs.declared.fault.PageFault.{PageFault}
use Rattle.journal_pages.specs.declared.fault.PageFault.TheVariants as faults
use Rattle.journal_pages.specs.declared.place.Place.{Place}
use Rattle.journal_pages.specs.declared.place.Place.TheVariants.{PageStart, BetweenBatches, InBatch}
use Rattle.journal_pages.specs.declared.place.Batch.{Batch}
use Rattle.journal_pages.specs.Record.{Record, Front, Stands, Refused, front, records_in, size_of}

-- ---- the order of kinds

-- Where in its batch a record stands: events first, then reports, what the client's link is told, what the port's is,
-- at most one fault, and the end.
abbrev pub rank : RecordKind → ℕ
rank Report = 1
rank ClientWrite = 2
rank ClientClose = 2
rank PortWrite = 3
rank PortClose = 3
rank Fault = 4
rank BatchEnd = 5
rank event = 0

abbrev pub is_event : RecordKind → Bool
is_event kind = rank kind == 0

-- a record of this rank may stand behind one of that rank
abbrev pub may_follow : ℕ → ℕ → Bool
may_follow before now = nat_lt before now || (before == now && nat_lt now 4)

-- ---- one batch

-- behind an event at this moment
abbrev pub batch_at : ℕ → Batch
batch_at at = record { at = at; client = None; port = None; rank = 0 }

-- of one client or port: the first that is named
abbrev pub is_same : Option ℕ → ℕ → Bool
is_same None source = true
is_same (Some known) source = known == source

-- a record of this rank is of the batch's client, or its port
abbrev pub is_of_batch : Batch → Record → Bool
is_of_batch b r =
    if nat_le (rank r.kind) 2 then is_same b.client r.source
    else if nat_le (rank r.kind) 4 then is_same b.port r.source
    else true

-- where a batch goes on: its moment and its client and port first, then the order
abbrev pub next_fault : Batch → Record → Option PageFault
next_fault b r =
    if not (b.at == r.at) then Some faults.Payload
    else if not (is_of_batch b r) then Some faults.Payload
    else if may_follow b.rank (rank r.kind) then None
    else Some faults.Order

abbrev named : Bool → Option ℕ → ℕ → Option ℕ
named is_named known source = if is_named then Some source else known

abbrev pub batch_with : Batch → Record → Batch
batch_with b r = record {
  at = b.at;
  client = named (nat_le (rank r.kind) 2) b.client r.source;
  port = named (nat_le 3 (rank r.kind) && nat_le (rank r.kind) 4) b.port r.source;
  rank = rank r.kind;
}

abbrev pub place_within : Batch → Record → Place
place_within b r = if rank r.kind == 5 then BetweenBatches else InBatch (batch_with b r)

-- ---- a place in a page

-- what is wrong with a record at a place, if anything is
abbrev pub fault_at : Place → Record → Option PageFault
fault_at PageStart r = None
fault_at BetweenBatches r = if is_event r.kind then None else Some faults.Order
fault_at (InBatch b) r = if is_event r.kind then Some faults.Order else next_fault b r

abbrev pub unless : Option PageFault → Option PageFault → Option PageFault
unless (Some fault) later = Some fault
unless None later = later

-- the place behind it
abbrev pub place_after : Place → Record → Place
place_after PageStart r = if is_event r.kind then InBatch (batch_at r.at) else place_within (batch_at r.at) r
place_after BetweenBatches r = InBatch (batch_at r.at)
place_after (InBatch b) r = place_within b r

-- ---- a page

-- what is wrong with the record in front, or else with what stands behind it
abbrev pub fault_of_front : Front → Place → (Place → ℕ → Option PageFault) → Option PageFault
fault_of_front (Refused fault) place behind = Some fault
fault_of_front (Stands r) place behind = unless (fault_at place r) (behind (place_after place r) (size_of r))

-- The first thing that is wrong with records that stand one behind another. Each takes some bytes, so that as many
-- looks as there are bytes are enough.
abbrev pub fault_by_looks : ℕ → Place → List ℕ → Option PageFault
fault_by_looks zero place bytes = None
fault_by_looks (suc looks) place [] = None
fault_by_looks (suc looks) place (b ∷ bytes) =
    fault_of_front (front (b ∷ bytes)) place (λ later size. fault_by_looks looks later (drop size (b ∷ bytes)))

-- what is wrong with records behind a place
abbrev pub records_fault : Place → List ℕ → Option PageFault
records_fault place bytes = fault_by_looks (length bytes) place bytes

-- what a page of a version begins with
abbrev pub page_name : Version → List ℕ
page_name One = codes "GJ01"
page_name Two = codes "GJ02"

-- how many bytes stand before its first record: the name, and of version 2 a number of eight bytes
abbrev pub front_size : Version → ℕ
front_size One = 4
front_size Two = 12

-- the version of a page by what it begins with
abbrev pub version_named : List ℕ → Version
version_named page = if bytes_eq (take 4 page) (page_name One) then One else Two

-- the number that a page of version 2 has: how many records of the history stand before it; 0 of a shorter text
abbrev pub page_number : List ℕ → ℕ
page_number text = if nat_lt (length text) (front_size Two) then 0 else from_be_bytes w64 (take 8 (drop 4 text))

-- what stands before the records of a page of version 2 with this number
abbrev pub page_front : ℕ → List ℕ
page_front number = page_name Two ++ to_be_bytes w64 number

-- Why a text is no page of a version, if it isn't one. A page has a record. Its number is compared where pages stand
-- one behind another, and not here.
abbrev pub page_fault : Version → List ℕ → Option PageFault
page_fault version text =
    if not (bytes_eq (take 4 text) (page_name version)) then Some faults.Head
    else if nat_lt (length text) (front_size version) then Some faults.Head
    else if length text == front_size version then Some faults.CutShort
    else records_fault PageStart (drop (front_size version) text)

-- a text is a page of version 2
abbrev pub is_page : List ℕ → Bool
is_page text = is_none (page_fault Two text)

-- the records of a page of a version
abbrev pub page_records : Version → List ℕ → List Record
page_records version text = records_in (drop (front_size version) text)
