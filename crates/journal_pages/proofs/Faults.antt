-- The first thing that is wrong with records, a record at a time.
use Rattle.std.proofs.Common.{◌≡◌, ◌≤◌, ℕ, zero, suc, List, [], ◌∷◌, length, drop, Option, Some, None, refl, ap, ◌∙◌}
use Rattle.std.proofs.Common.{arith, length-drop}
use Rattle.journal_pages.specs.declared.fault.PageFault.{PageFault}
use Rattle.journal_pages.specs.declared.place.Place.{Place}
use Rattle.journal_pages.specs.Record.{Record, Front, Stands, Refused, front, size_of}
use Rattle.journal_pages.specs.Page.{fault_at, fault_by_looks, fault_of_front, place_after, records_fault, unless}

-- what stands behind is asked for at one byte at least
same-fault : (f : Front) (place : Place) (g h : Place → ℕ → Option PageFault)
    → ((later : Place) (n : ℕ) → 1 ≤ n → g later n ≡ h later n) → fault_of_front f place g ≡ fault_of_front f place h
same-fault (Refused fault) place g h same = refl
same-fault (Stands r) place g h same = ap (unless (fault_at place r))
    (same (place_after place r) (size_of r) (omega arith))

-- as many looks as there are bytes are enough
enough : (looks more : ℕ) (place : Place) (bytes : List ℕ) → length bytes ≤ looks → length bytes ≤ more
    → fault_by_looks looks place bytes ≡ fault_by_looks more place bytes
enough zero zero place bytes a b = refl
enough zero (suc more) place [] a b = refl
enough zero (suc more) place (x ∷ bytes) a b = absurd (omega (arith, a))
enough (suc looks) zero place [] a b = refl
enough (suc looks) zero place (x ∷ bytes) a b = absurd (omega (arith, b))
enough (suc looks) (suc more) place [] a b = refl
enough (suc looks) (suc more) place (x ∷ bytes) a b =
    same-fault (front (x ∷ bytes)) place (λ later size. fault_by_looks looks later (drop size (x ∷ bytes)))
    (λ later size. fault_by_looks more later (drop size (x ∷ bytes)))
    (λ later n few.
    let left = length-drop n (x ∷ bytes) in
    enough looks more later (drop n (x ∷ bytes)) (omega (arith, left, few, a)) (omega (arith, left, few, b)))

-- a look at a record, where there are bytes
look : (place : Place) (bytes : List ℕ) → 1 ≤ length bytes
    → records_fault place bytes ≡ fault_of_front (front bytes) place
    (λ later size. records_fault later (drop size bytes))
look place [] some = absurd (omega (arith, some))
look place (x ∷ bytes) some =
    same-fault (front (x ∷ bytes)) place (λ later size. fault_by_looks (length bytes) later (drop size (x ∷ bytes)))
    (λ later size. records_fault later (drop size (x ∷ bytes)))
    (λ later n few.
    let left = length-drop n (x ∷ bytes) in
    enough (length bytes) (length (drop n (x ∷ bytes))) later (drop n (x ∷ bytes)) (omega (arith, left, few))
    (omega arith))

pub refused-fault : (place : Place) (bytes : List ℕ) (fault : PageFault) → 1 ≤ length bytes
    → front bytes ≡ Refused fault → records_fault place bytes ≡ Some fault
refused-fault place bytes fault some e = look place bytes some
    ∙ ap (λ (f : Front). fault_of_front f place (λ later size. records_fault later (drop size bytes))) e

pub stood : (place : Place) (bytes : List ℕ) (r : Record) → 1 ≤ length bytes → front bytes ≡ Stands r
    → records_fault place bytes ≡ unless (fault_at place r)
    (records_fault (place_after place r) (drop (size_of r) bytes))
stood place bytes r some e = look place bytes some
    ∙ ap (λ (f : Front). fault_of_front f place (λ later size. records_fault later (drop size bytes))) e

pub misplaced-fault : (place : Place) (bytes : List ℕ) (r : Record) (fault : PageFault) → 1 ≤ length bytes
    → front bytes ≡ Stands r → fault_at place r ≡ Some fault → records_fault place bytes ≡ Some fault
misplaced-fault place bytes r fault some e is = stood place bytes r some e
    ∙ ap (λ (f : Option PageFault). unless f (records_fault (place_after place r) (drop (size_of r) bytes))) is

pub record-behind : (place : Place) (bytes : List ℕ) (r : Record) → 1 ≤ length bytes → front bytes ≡ Stands r
    → fault_at place r ≡ None → records_fault place bytes ≡ records_fault (place_after place r) (drop (size_of r) bytes)
record-behind place bytes r some e is = stood place bytes r some e
    ∙ ap (λ (f : Option PageFault). unless f (records_fault (place_after place r) (drop (size_of r) bytes))) is
