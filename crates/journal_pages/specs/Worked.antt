-- Pages that are written down, by computing them: what is a page, and what each refusal refuses.
use Rattle.std.specs.Prelude.{◌≡◌, ℕ, List, [], ◌∷◌, ◌++◌, Some, None, Option, codes, take, replicate, refl}
use Rattle.std.specs.List.{flat_map}
use Rattle.std.specs.Fmt.{digits}
use Rattle.fix_fields.specs.Reading.{cut_fields, fields_of}
use Rattle.journal_pages.specs.declared.kind.RecordKind.{RecordKind}
use Rattle.journal_pages.specs.declared.kind.RecordKind.TheVariants as kinds
use Rattle.journal_pages.specs.declared.fault.PageFault.{PageFault}
use Rattle.journal_pages.specs.declared.fault.PageFault.TheVariants as faults
use Rattle.journal_pages.specs.Record.{Record, record_bytes}
use Rattle.journal_pages.specs.declared.version.Version.{Version}
use Rattle.journal_pages.specs.declared.version.Version.TheVariants.{One, Two}
use Rattle.journal_pages.specs.Page.{page_fault, page_front, page_name, page_number, version_named}

-- a page of version 2 with this number, and one of version 1
abbrev numbered : ℕ → List Record → List ℕ
numbered number records = page_front number ++ flat_map record_bytes records

abbrev first_form : List Record → List ℕ
first_form records = page_name One ++ flat_map record_bytes records

abbrev page : List Record → List ℕ
page records = numbered 0 records

abbrev fault : List ℕ → Option PageFault
fault text = page_fault Two text

-- a record of client or port 1, at moment 7
abbrev of_kind : RecordKind → (link : ℕ) → List ℕ → Record
of_kind kind link payload = record { kind = kind; source = 1; link = link; at = 7; payload = payload }

abbrev up : Record
up = of_kind kinds.ClientUp 1 []

abbrev tick : Record
tick = of_kind kinds.ClientTick 0 []

abbrev report : Record
report = of_kind kinds.Report 0 (codes "35=8" ++ 1 ∷ [])

abbrev client_write : Record
client_write = of_kind kinds.ClientWrite 1 (codes "8=FIX")

abbrev client_close : Record
client_close = of_kind kinds.ClientClose 1 []

abbrev port_write : Record
port_write = of_kind kinds.PortWrite 1 (0 ∷ 1 ∷ 82 ∷ [])

abbrev port_close : Record
port_close = of_kind kinds.PortClose 1 []

abbrev faulted : Record
faulted = of_kind kinds.Fault 0 (6 ∷ [])

abbrev end : Record
end = record { kind = kinds.BatchEnd; source = 0; link = 0; at = 7; payload = [] }

-- ---- pages

-- client 1's link 1 is up at moment 0, and an empty batch
abbrev one_up : List ℕ
one_up = page (record up { at = 0 } ∷ record end { at = 0 } ∷ [])

its_bytes : one_up
    ≡ 71 ∷ 74 ∷ 48 ∷ 50 ∷ 0 ∷ 0 ∷ 0 ∷ 0 ∷ 0 ∷ 0 ∷ 0 ∷ 0
    ∷ 1 ∷ 0 ∷ 1 ∷ 0 ∷ 0 ∷ 0 ∷ 0 ∷ 0 ∷ 0 ∷ 0 ∷ 1 ∷ 0 ∷ 0 ∷ 0 ∷ 0 ∷ 0 ∷ 0 ∷ 0 ∷ 0 ∷ 0 ∷ 0 ∷ 0 ∷ 0
    ∷ 15 ∷ 0 ∷ 0 ∷ 0 ∷ 0 ∷ 0 ∷ 0 ∷ 0 ∷ 0 ∷ 0 ∷ 0 ∷ 0 ∷ 0 ∷ 0 ∷ 0 ∷ 0 ∷ 0 ∷ 0 ∷ 0 ∷ 0 ∷ 0 ∷ 0 ∷ 0 ∷ []
its_bytes = refl

pages : (fault one_up ≡ None)
    × (fault (page (tick ∷ report ∷ client_write ∷ client_close ∷ port_write ∷ port_close ∷ faulted ∷ end ∷ []))
    ≡ None)  -- all that a batch may have
    × (fault (page (port_write ∷ end ∷ up ∷ report ∷ report ∷ [])) ≡ None)  -- it begins and ends inside a batch
    × (fault (page (of_kind kinds.PortPacket 1 (0 ∷ 1 ∷ 72 ∷ []) ∷ [])) ≡ None)  -- a packet
    × (fault (page (of_kind kinds.ClientMessage 1 (codes "35=0" ++ 1 ∷ []) ∷ [])) ≡ None)  -- a frame
unfolding fields_of cut_fields digits
pages = (refl, refl, refl, refl, refl)

-- ---- refusals

heads : (fault [] ≡ Some faults.Head) × (fault (codes "GJ0") ≡ Some faults.Head)
    × (fault (codes "HJ02" ++ replicate 8 0) ≡ Some faults.Head)
    × (fault (first_form (up ∷ end ∷ [])) ≡ Some faults.Head)  -- the other version
    × (page_fault One (page (up ∷ end ∷ [])) ≡ Some faults.Head)
    × (fault (take 4 one_up) ≡ Some faults.Head)  -- no number
    × (fault (take 11 one_up) ≡ Some faults.Head)  -- a part of a number
heads = (refl, refl, refl, refl, refl, refl, refl)

cut_short : (fault (take 12 one_up) ≡ Some faults.CutShort)  -- no record
    × (fault (take 57 one_up) ≡ Some faults.CutShort)  -- a byte less
    × (fault (take 34 one_up) ≡ Some faults.CutShort)  -- in the first head
    × (fault (one_up ++ 1 ∷ []) ≡ Some faults.CutShort)  -- a byte more
cut_short = (refl, refl, refl, refl)

-- kinds 0 and 16
kinds_refused : (fault (page_front 0 ++ replicate 23 0) ≡ Some faults.Kind)
    × (fault (page_front 0 ++ 16 ∷ replicate 22 0) ≡ Some faults.Kind)
kinds_refused = (refl, refl)

-- ---- versions and numbers

versions : (version_named (first_form (up ∷ end ∷ [])) ≡ One) × (version_named one_up ≡ Two) × (version_named [] ≡ Two)
    × (page_fault One (first_form (up ∷ end ∷ [])) ≡ None)
    × (page_fault One (page_name One) ≡ Some faults.CutShort)
    × (page_fault One (codes "GJ0") ≡ Some faults.Head)
versions = (refl, refl, refl, refl, refl, refl)

-- a page alone may have any number
numbers : (page_number one_up ≡ 0) × (page_number (numbered 2_848 (up ∷ end ∷ [])) ≡ 2_848)
    × (page_number (numbered 18_446_744_073_709_551_615 (up ∷ end ∷ [])) ≡ 18_446_744_073_709_551_615)
    × (fault (numbered 2_848 (up ∷ end ∷ [])) ≡ None)
    × (page_number (take 11 (numbered 2_848 (up ∷ end ∷ []))) ≡ 0)
numbers = (refl, refl, refl, refl, refl)

abbrev refused : Record → Option PageFault
refused r = fault (page (r ∷ []))

payloads : (refused (record up { payload = 0 ∷ [] }) ≡ Some faults.Payload)  -- a payload where none is
    × (refused (record up { source = 0 }) ≡ Some faults.Payload)  -- of nobody
    × (refused (record end { source = 1 }) ≡ Some faults.Payload)  -- an end of somebody
    × (refused (record tick { link = 1 }) ≡ Some faults.Payload)  -- a link of what isn't of a link
    × (refused (record report { payload = codes "35=8" }) ≡ Some faults.Payload)  -- no fields
    × (refused (of_kind kinds.PortPacket 1 (0 ∷ 2 ∷ 72 ∷ [])) ≡ Some faults.Payload)  -- a byte less than a packet
    × (refused (of_kind kinds.PortPacket 1 (0 ∷ 0 ∷ [])) ≡ Some faults.Payload)  -- no type
    × (refused (record faulted { payload = 0 ∷ [] }) ≡ Some faults.Payload)  -- faults are 1 to 6
    × (refused (record faulted { payload = 7 ∷ [] }) ≡ Some faults.Payload)
    × (refused (record faulted { payload = 1 ∷ 1 ∷ [] }) ≡ Some faults.Payload)
unfolding fields_of cut_fields digits
payloads = (refl, refl, refl, refl, refl, refl, refl, refl, refl, refl)

abbrev then : Record → Record → Option PageFault
then a b = fault (page (up ∷ a ∷ b ∷ []))

batches : (then report (record report { at = 8 }) ≡ Some faults.Payload)  -- another moment
    × (then report (record client_write { source = 2 }) ≡ Some faults.Payload)  -- another client
    × (then port_write (record faulted { source = 2 }) ≡ Some faults.Payload)  -- another port
    × (then report (record port_write { source = 2 }) ≡ None)  -- a port of another number than the client's
unfolding fields_of cut_fields digits
batches = (refl, refl, refl, refl)

order : (then client_write report ≡ Some faults.Order)
    × (then port_write client_close ≡ Some faults.Order)
    × (then faulted port_write ≡ Some faults.Order)
    × (then faulted faulted ≡ Some faults.Order)
    × (then end report ≡ Some faults.Order)  -- behind an end comes an event
    × (then report tick ≡ Some faults.Order)  -- inside a batch no event
    × (then client_close client_write ≡ None)  -- what a link is told stands in any order
unfolding fields_of cut_fields digits
order = (refl, refl, refl, refl, refl, refl, refl)
