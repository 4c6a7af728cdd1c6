-- Bytes that are records to their end begin with one, and are such bytes behind it. Those of a page are.
use Rattle.std.proofs.Common.{◌≡◌, ◌≤◌, ◌+◌, ℕ, zero, suc, true, false, None, List, [], ◌∷◌, length, drop, refl, ap}
use Rattle.std.proofs.Common.{◌∙◌, arith, length-drop}
use Rattle.std.proofs.lemmas.Bool.Decides.{nat_tests}
use Rattle.std.specs.Prelude.{◌==◌}
use Rattle.journal_pages.specs.declared.place.Place.{Place}
use Rattle.journal_pages.specs.declared.place.Place.TheVariants.{PageStart}
use Rattle.journal_pages.specs.declared.version.Version.{Version}
use Rattle.journal_pages.specs.Judged.{AreRecords, size_of_all}
use Rattle.journal_pages.specs.Page.{fault_at, fault_by_looks, fault_of_front, front_size, page_fault, place_after}
use Rattle.journal_pages.specs.Record.{Record, Front, Stands, Refused, front, has_record, is_record, records_by_looks}
use Rattle.journal_pages.specs.Record.{records_in, records_of_front, size_of}
use Rattle.journal_pages.proofs.Listed.{both-none, no-more, one-more, page-parts}
use Rattle.journal_pages.proofs.Spelled.{front-size}

pub some-bytes : (n : ℕ) → (n == 0) ≡ false → 1 ≤ n
some-bytes n e = grind (arith, nat_tests)

pub has-first : (bytes : List ℕ) → 1 ≤ length bytes → AreRecords bytes → has_record bytes ≡ true
has-first bytes some are = by_front (front bytes) refl
  where
    by_front : (f : Front) → front bytes ≡ f → has_record bytes ≡ true
    by_front (Stands r) e = ap is_record e
    by_front (Refused fault) e =
        let none : length bytes ≡ 0 = are ∙ ap size_of_all (no-more bytes fault e) in
        absurd (omega (arith, some, none))

pub are-behind : (bytes : List ℕ) (r : Record) → front bytes ≡ Stands r → AreRecords bytes
    → AreRecords (drop (size_of r) bytes)
are-behind bytes r e are =
    let all : length bytes ≡ size_of r + size_of_all (records_in (drop (size_of r) bytes)) =
    are ∙ ap size_of_all (one-more bytes r e) in
    let left = length-drop (size_of r) bytes in
    omega (arith, all, left)

sized-front : (looks : ℕ) (place : Place) (bytes : List ℕ)
    → ((later : Place) (n : ℕ) → 1 ≤ n → fault_by_looks looks later (drop n bytes) ≡ None
    → length (drop n bytes) ≡ size_of_all (records_by_looks looks (drop n bytes)))
    → (f : Front) → front bytes ≡ f
    → fault_of_front f place (λ later size. fault_by_looks looks later (drop size bytes)) ≡ None
    → length bytes ≡ size_of_all (records_of_front f (λ size. records_by_looks looks (drop size bytes)))
sized-front looks place bytes behind (Refused fault) is e = let no : ⊥ = cc in absurd no
sized-front looks place bytes behind (Stands r) is e =
    let rest = behind (place_after place r) (size_of r) (omega arith) ((both-none (fault_at place r) _ e).1) in
    let few = front-size bytes r is in
    let left = length-drop (size_of r) bytes in
    omega (arith, rest, few, left)

sized : (looks : ℕ) (place : Place) (bytes : List ℕ) → length bytes ≤ looks → fault_by_looks looks place bytes ≡ None
    → length bytes ≡ size_of_all (records_by_looks looks bytes)
sized zero place [] few e = refl
sized zero place (b ∷ bytes) few e = absurd (omega (arith, few))
sized (suc looks) place [] few e = refl
sized (suc looks) place (b ∷ bytes) few e =
    sized-front looks place (b ∷ bytes)
    (λ later n some none.
    let left = length-drop n (b ∷ bytes) in
    sized looks later (drop n (b ∷ bytes)) (omega (arith, left, some, few)) none)
    (front (b ∷ bytes)) refl e

-- what stands behind the front of a page is records to its end
pub page-are : (version : Version) (text : List ℕ) → page_fault version text ≡ None
    → AreRecords (drop (front_size version) text)
page-are version text e = sized (length (drop (front_size version) text)) PageStart (drop (front_size version) text)
    (omega arith) (page-parts version text e).records
