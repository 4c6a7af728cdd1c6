-- Pages that are written down, by computing them: with which of them a day begins, and which are one.
use Rattle.std.specs.Prelude.{◌≡◌, ℕ, List, [], ◌∷◌, ◌++◌, refl, Some, None}
use Rattle.journal_pages.specs.declared.fault.PageFault.TheVariants.{Head, Number, Order}
use Rattle.journal_pages.specs.declared.kind.RecordKind.TheVariants.{BatchEnd, ClientTick}
use Rattle.journal_pages.specs.declared.version.Version.TheVariants.{Two}
use Rattle.journal_pages.specs.Page.{page_front}
use Rattle.journal_pages.specs.Record.{Record, record_bytes}
use Rattle.journal_days.specs.Begun.{begun_fault}
use Rattle.journal_days.specs.Day.{day_fault}

-- a tick of client 1, and the end of its batch
abbrev tick : Record
tick = record { kind = ClientTick; source = 1; link = 0; at = 7; payload = [] }

abbrev over : Record
over = record { kind = BatchEnd; source = 0; link = 0; at = 7; payload = [] }

-- a page inside which a batch begins, one that ends it, and one with both
abbrev begins : List ℕ
begins = page_front 0 ++ record_bytes tick

abbrev ends : List ℕ
ends = page_front 1 ++ record_bytes over

abbrev whole : List ℕ
whole = page_front 0 ++ (record_bytes tick ++ record_bytes over)

days : (day_fault Two [] ≡ None)
    × (day_fault Two (whole ∷ []) ≡ None)
    × (day_fault Two (begins ∷ ends ∷ []) ≡ None)
    × (day_fault Two (begins ∷ []) ≡ Some (0, Order))  -- a batch is open
    × (day_fault Two (whole ∷ begins ∷ []) ≡ Some (1, Number))
days = (refl, refl, refl, refl, refl)

beginnings : (begun_fault Two [] ≡ None)
    × (begun_fault Two (whole ∷ []) ≡ None)
    × (begun_fault Two (begins ∷ []) ≡ None)  -- what ends the batch may stand behind
    × (begun_fault Two (ends ∷ []) ≡ Some (0, Number))
    × (begun_fault Two (begins ∷ begins ∷ []) ≡ Some (1, Number))
    × (begun_fault Two ((7 ∷ []) ∷ begins ∷ []) ≡ Some (0, Head))
beginnings = (refl, refl, refl, refl, refl, refl)
