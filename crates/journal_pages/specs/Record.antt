-- A record of the journal, and what its bytes are. The format is the gateway's own, version 1: no public standard has
-- one. What a text and a packet are is said by FIX 4.4 Volume 1, "FIX Tag=Value Syntax", and SoupBinTCP 3.00, "Logical
-- Packets".
use Rattle.std.specs.Prelude.{ℕ, zero, suc, ◌+◌, ◌==◌, Bool, true, false, not, ◌&&◌, nat_lt, nat_le, List, [], ◌∷◌}
use Rattle.std.specs.Prelude.{◌++◌, length, take, drop, Option, Some, None, is_some, if◌then◌else◌, slice_index}
use Rattle.std.specs.Int.{w16, w32, w64, to_be_bytes, from_be_bytes}
use Rattle.fix_fields.specs.Reading.{fields_of}
use Rattle.journal_pages.specs.declared.kind.RecordKind.{RecordKind}
use Rattle.journal_pages.specs.declared.kind.RecordKind.TheVariants.{ClientUp, ClientMessage, ClientGone, PortUp}
use Rattle.journal_pages.specs.declared.kind.RecordKind.TheVariants.{PortPacket, PortGone, ClientTick, PortTick}
use Rattle.journal_pages.specs.declared.kind.RecordKind.TheVariants.{Report, ClientWrite, ClientClose, PortWrite}
use Rattle.journal_pages.specs.declared.kind.RecordKind.TheVariants.{PortClose, Fault, BatchEnd}
use Rattle.journal_pages.specs.declared.fault.PageFault.{PageFault}
use Rattle.journal_pages.specs.declared.fault.PageFault.TheVariants as faults

-- the number of a kind, which is its byte
abbrev pub kind_number : RecordKind → ℕ
kind_number ClientUp = 1
kind_number ClientMessage = 2
kind_number ClientGone = 3
kind_number PortUp = 4
kind_number PortPacket = 5
kind_number PortGone = 6
kind_number ClientTick = 7
kind_number PortTick = 8
kind_number Report = 9
kind_number ClientWrite = 10
kind_number ClientClose = 11
kind_number PortWrite = 12
kind_number PortClose = 13
kind_number Fault = 14
kind_number BatchEnd = 15

-- the kind of a number
abbrev pub kind_numbered : ℕ → Option RecordKind
kind_numbered n =
    if n == 1 then Some ClientUp
    else if n == 2 then Some ClientMessage
    else if n == 3 then Some ClientGone
    else if n == 4 then Some PortUp
    else if n == 5 then Some PortPacket
    else if n == 6 then Some PortGone
    else if n == 7 then Some ClientTick
    else if n == 8 then Some PortTick
    else if n == 9 then Some Report
    else if n == 10 then Some ClientWrite
    else if n == 11 then Some ClientClose
    else if n == 12 then Some PortWrite
    else if n == 13 then Some PortClose
    else if n == 14 then Some Fault
    else if n == 15 then Some BatchEnd
    else None

pub record Record : Type 0 where
  pub kind : RecordKind
  -- the number of a client or a port
  pub source : ℕ
  pub link : ℕ
  -- in milliseconds
  pub at : ℕ
  pub payload : List ℕ

-- ---- what each kind has

-- the bytes of one packet, and nothing behind it
abbrev pub is_packet : List ℕ → Bool
is_packet bytes = nat_le 3 (length bytes) && from_be_bytes w16 (take 2 bytes) + 2 == length bytes

-- one byte, 1 to 6
abbrev pub is_fault_number : List ℕ → Bool
is_fault_number (number ∷ []) = nat_le 1 number && nat_le number 6
is_fault_number other = false

-- a frame of a client has at most so many bytes
abbrev pub longest_frame : ℕ
longest_frame = 8_192

-- what may stand in the payload, a line for each kind
abbrev pub payload_fits : RecordKind → List ℕ → Bool
payload_fits ClientMessage bytes = is_some (fields_of bytes) && nat_le (length bytes) longest_frame
payload_fits PortPacket bytes = is_packet bytes
payload_fits Report bytes = is_some (fields_of bytes)
payload_fits ClientWrite bytes = true
payload_fits PortWrite bytes = true
payload_fits Fault bytes = is_fault_number bytes
payload_fits other bytes = length bytes == 0

-- The end of a batch is of nobody; every other record is of a client or a port.
abbrev pub source_fits : RecordKind → ℕ → Bool
source_fits BatchEnd source = source == 0
source_fits other source = not (source == 0)

-- what isn't of a link has the link 0
abbrev pub link_fits : RecordKind → ℕ → Bool
link_fits ClientTick link = link == 0
link_fits PortTick link = link == 0
link_fits Report link = link == 0
link_fits Fault link = link == 0
link_fits BatchEnd link = link == 0
link_fits other link = true

-- a payload has fewer bytes than this, 2^20
abbrev pub payload_limit : ℕ
payload_limit = 1_048_576

abbrev pub is_sound : Record → Bool
is_sound r = nat_lt (length r.payload) payload_limit
    && (payload_fits r.kind r.payload && (source_fits r.kind r.source && link_fits r.kind r.link))

-- ---- bytes

-- kind 1, source 2, link 8, at 8, length 4, the high byte first
abbrev pub head_size : ℕ
head_size = 23

abbrev pub size_of : Record → ℕ
size_of r = head_size + length r.payload

abbrev pub record_bytes : Record → List ℕ
record_bytes r = kind_number r.kind
    ∷ to_be_bytes w16 r.source
    ++ (to_be_bytes w64 r.link ++ (to_be_bytes w64 r.at ++ (to_be_bytes w32 (length r.payload) ++ r.payload)))

abbrev pub payload_size : List ℕ → ℕ
payload_size bytes = from_be_bytes w32 (take 4 (drop 19 bytes))

-- there are fewer bytes than a head, or than it says
abbrev pub is_cut : List ℕ → Bool
is_cut bytes = nat_lt (length bytes) (head_size + payload_size bytes)

abbrev pub read_as : RecordKind → List ℕ → Record
read_as kind bytes = record {
  kind = kind;
  source = from_be_bytes w16 (take 2 (drop 1 bytes));
  link = from_be_bytes w64 (take 8 (drop 3 bytes));
  at = from_be_bytes w64 (take 8 (drop 11 bytes));
  payload = take (payload_size bytes) (drop head_size bytes);
}

-- what stands in front of some bytes: a record, or what can't be read as one
pub data Front : Type 0 where
  Stands : (r : Record) → Front
  Refused : (fault : PageFault) → Front

abbrev pub front_of_kind : Option RecordKind → List ℕ → Front
front_of_kind None bytes = Refused faults.Kind
front_of_kind (Some kind) bytes = if is_sound (read_as kind bytes) then Stands (read_as kind bytes)
    else Refused faults.Payload

-- A record that is cut short is refused first, then its kind, then what it has.
abbrev pub front : List ℕ → Front
front bytes = if nat_lt (length bytes) head_size then Refused faults.CutShort
    else if is_cut bytes then Refused faults.CutShort
    else front_of_kind (kind_numbered (slice_index bytes 0)) bytes

abbrev pub is_record : Front → Bool
is_record (Stands r) = true
is_record (Refused fault) = false

-- some bytes begin with a record
abbrev pub has_record : List ℕ → Bool
has_record bytes = is_record (front bytes)

-- ---- records one behind another

abbrev pub records_of_front : Front → (ℕ → List Record) → List Record
records_of_front (Refused fault) behind = []
records_of_front (Stands r) behind = r ∷ behind (size_of r)

-- Each record takes some bytes, so that as many looks as there are bytes are enough.
abbrev pub records_by_looks : ℕ → List ℕ → List Record
records_by_looks zero bytes = []
records_by_looks (suc looks) [] = []
records_by_looks (suc looks) (b ∷ bytes) =
    records_of_front (front (b ∷ bytes)) (λ size. records_by_looks looks (drop size (b ∷ bytes)))

-- the records that stand one behind another in some bytes, up to the first that can't be read
abbrev pub records_in : List ℕ → List Record
records_in bytes = records_by_looks (length bytes) bytes
