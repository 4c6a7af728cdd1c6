-- The records of some bytes, one at a time; those of a page are the page.
use Rattle.std.proofs.Common.{◌≡◌, ◌<◌, ◌≤◌, ◌^◌, ℕ, zero, suc, ◌+◌, true, false, Bool, Option, Some, None, List, []}
use Rattle.std.proofs.Common.{◌∷◌, ◌++◌, length, take, drop, refl, sym, ap, ◌∙◌, arith, append-nil, length-drop}
use Rattle.std.specs.List.{flat_map}
use Rattle.std.proofs.Math.Seq.{take-add}
use Rattle.std.specs.Prelude.{◌==◌, not, nat_lt, bytes_eq, is_none, if◌then◌else◌}
use Rattle.std.specs.Int.{w64, from_be_bytes, to_be_bytes}
use Rattle.std.proofs.lemmas.Bool.{le-ltb}
use Rattle.std.proofs.lemmas.Bool.Decides.{nat_tests}
use Rattle.std.proofs.lemmas.List.{drop_at, length-take, take-append-drop}
use Rattle.std.proofs.lemmas.Slice.Eq.{bytes_eq-Decides}
use Rattle.journal_pages.specs.declared.fault.PageFault.{PageFault}
use Rattle.journal_pages.specs.declared.fault.PageFault.TheVariants as faults
use Rattle.journal_pages.specs.declared.place.Place.{Place}
use Rattle.journal_pages.specs.declared.place.Place.TheVariants.{PageStart}
use Rattle.journal_pages.specs.Record.{Record, Front, Stands, Refused, front, is_sound, record_bytes, records_by_looks}
use Rattle.journal_pages.specs.Record.{records_in, records_of_front, size_of}
use Rattle.journal_pages.specs.Ordered.{AreSound, order_fault}
use Rattle.journal_pages.specs.Page.{fault_at, fault_by_looks, fault_of_front, front_size, is_page, page_fault}
use Rattle.journal_pages.specs.Page.{page_front, page_name, page_number, page_records, place_after, records_fault}
use Rattle.journal_pages.specs.Page.{unless}
use Rattle.journal_pages.specs.declared.version.Version.{Version}
use Rattle.journal_pages.specs.declared.version.Version.TheVariants.{One, Two}
use Rattle.journal_pages.proofs.Spelled.{AreBytes, AreBytes-behind, eight, front-sound, front-spelled}
use Rattle.journal_pages.proofs.Written.{written-stands}

same-records : (f : Front) (g h : ℕ → List Record) → ((n : ℕ) → 1 ≤ n → g n ≡ h n)
    → records_of_front f g ≡ records_of_front f h
same-records (Refused fault) g h same = refl
same-records (Stands r) g h same = ap (λ (rs : List Record). r ∷ rs) (same (size_of r) (omega arith))

-- as many looks as there are bytes are enough
enough : (looks more : ℕ) (bytes : List ℕ) → length bytes ≤ looks → length bytes ≤ more
    → records_by_looks looks bytes ≡ records_by_looks more bytes
enough zero zero bytes a b = refl
enough zero (suc more) [] a b = refl
enough zero (suc more) (x ∷ bytes) a b = absurd (omega (arith, a))
enough (suc looks) zero [] a b = refl
enough (suc looks) zero (x ∷ bytes) a b = absurd (omega (arith, b))
enough (suc looks) (suc more) [] a b = refl
enough (suc looks) (suc more) (x ∷ bytes) a b =
    same-records (front (x ∷ bytes)) (λ size. records_by_looks looks (drop size (x ∷ bytes)))
    (λ size. records_by_looks more (drop size (x ∷ bytes)))
    (λ n few.
    let left = length-drop n (x ∷ bytes) in
    enough looks more (drop n (x ∷ bytes)) (omega (arith, left, few, a)) (omega (arith, left, few, b)))

-- a look at a record, where there are bytes
look : (b : ℕ) (bytes : List ℕ) → records_in (b ∷ bytes)
    ≡ records_of_front (front (b ∷ bytes)) (λ size. records_in (drop size (b ∷ bytes)))
look b bytes =
    same-records (front (b ∷ bytes)) (λ size. records_by_looks (length bytes) (drop size (b ∷ bytes)))
    (λ size. records_in (drop size (b ∷ bytes)))
    (λ n few.
    let left = length-drop n (b ∷ bytes) in
    enough (length bytes) (length (drop n (b ∷ bytes))) (drop n (b ∷ bytes)) (omega (arith, left, few)) (omega arith))

pub no-more : (bytes : List ℕ) (fault : PageFault) → front bytes ≡ Refused fault → records_in bytes ≡ []
no-more [] fault e = refl
no-more (b ∷ bytes) fault e = look b bytes
    ∙ ap (λ (f : Front). records_of_front f (λ size. records_in (drop size (b ∷ bytes)))) e

pub one-more : (bytes : List ℕ) (r : Record) → front bytes ≡ Stands r
    → records_in bytes ≡ r ∷ records_in (drop (size_of r) bytes)
one-more [] r e = let no : ⊥ = cc in absurd no
one-more (b ∷ bytes) r e = look b bytes ∙ ap
    (λ (f : Front). records_of_front f (λ size. records_in (drop size (b ∷ bytes)))) e

pub written-listed : (r : Record) (rest : List ℕ) → r.source < 2 ^ 16 → r.link < 2 ^ 64 → r.at < 2 ^ 64
    → is_sound r ≡ true → records_in (record_bytes r ++ rest) ≡ r ∷ records_in rest
written-listed r rest source link at sound =
    one-more (record_bytes r ++ rest) r (written-stands r rest source link at sound)
    ∙ ap (λ (l : List ℕ). r ∷ records_in l) (drop_at (record_bytes r) rest (size_of r) (omega arith))

-- ---- those of a page

pub both-none : (one other : Option PageFault) → unless one other ≡ None → (one ≡ None) × (other ≡ None)
both-none None other e = (refl, e)
both-none (Some fault) other e = let no : ⊥ = cc in absurd no

-- records with which nothing is wrong, written one behind another, are their bytes
spelled-front : (looks : ℕ) (place : Place) (bytes : List ℕ) → AreBytes bytes
    → ((later : Place) (n : ℕ) → 1 ≤ n → fault_by_looks looks later (drop n bytes) ≡ None
    → flat_map record_bytes (records_by_looks looks (drop n bytes)) ≡ drop n bytes)
    → (f : Front) → front bytes ≡ f → fault_of_front f place
    (λ later size. fault_by_looks looks later (drop size bytes)) ≡ None
    → flat_map record_bytes (records_of_front f (λ size. records_by_looks looks (drop size bytes))) ≡ bytes
spelled-front looks place bytes below behind (Refused fault) is e = let no : ⊥ = cc in absurd no
spelled-front looks place bytes below behind (Stands r) is e =
    ap (λ (l : List ℕ). record_bytes r ++ l) (behind (place_after place r) (size_of r) (omega arith)
    ((both-none (fault_at place r) _ e).1))
    ∙ sym (front-spelled bytes r below is)

spelled : (looks : ℕ) (place : Place) (bytes : List ℕ) → AreBytes bytes → length bytes ≤ looks
    → fault_by_looks looks place bytes ≡ None → flat_map record_bytes (records_by_looks looks bytes) ≡ bytes
spelled zero place [] below few e = refl
spelled zero place (b ∷ bytes) below few e = absurd (omega (arith, few))
spelled (suc looks) place [] below few e = refl
spelled (suc looks) place (b ∷ bytes) below few e =
    spelled-front looks place (b ∷ bytes) below
    (λ later n some none.
    let left = length-drop n (b ∷ bytes) in
    spelled looks later (drop n (b ∷ bytes)) (AreBytes-behind n (b ∷ bytes) below)
    (omega (arith, left, some, few)) none)
    (front (b ∷ bytes)) refl e

-- and they stand in order
ordered-front : (looks : ℕ) (place : Place) (bytes : List ℕ)
    → ((later : Place) (n : ℕ) → 1 ≤ n → fault_by_looks looks later (drop n bytes) ≡ None
    → order_fault later (records_by_looks looks (drop n bytes)) ≡ None)
    → (f : Front) → fault_of_front f place (λ later size. fault_by_looks looks later (drop size bytes)) ≡ None
    → order_fault place (records_of_front f (λ size. records_by_looks looks (drop size bytes))) ≡ None
ordered-front looks place bytes behind (Refused fault) e = let no : ⊥ = cc in absurd no
ordered-front looks place bytes behind (Stands r) e =
    let both = both-none (fault_at place r) (fault_by_looks looks (place_after place r) (drop (size_of r) bytes)) e in
    rw both.0 (behind (place_after place r) (size_of r) (omega arith) both.1)

ordered : (looks : ℕ) (place : Place) (bytes : List ℕ) → length bytes ≤ looks → fault_by_looks looks place bytes ≡ None
    → order_fault place (records_by_looks looks bytes) ≡ None
ordered zero place bytes few e = refl
ordered (suc looks) place [] few e = refl
ordered (suc looks) place (b ∷ bytes) few e =
    ordered-front looks place (b ∷ bytes)
    (λ later n some none.
    let left = length-drop n (b ∷ bytes) in
    ordered looks later (drop n (b ∷ bytes)) (omega (arith, left, some, few)) none)
    (front (b ∷ bytes)) e

-- what is read as a record has what its kind has
sound-front : (looks : ℕ) (bytes : List ℕ) → ((n : ℕ) → AreSound (records_by_looks looks (drop n bytes))) → (f : Front)
    → front bytes ≡ f
    → AreSound (records_of_front f (λ size. records_by_looks looks (drop size bytes)))
sound-front looks bytes behind (Refused fault) is = tt
sound-front looks bytes behind (Stands r) is = (front-sound bytes r is, behind (size_of r))

all-sound : (looks : ℕ) (bytes : List ℕ) → AreSound (records_by_looks looks bytes)
all-sound zero bytes = tt
all-sound (suc looks) [] = tt
all-sound (suc looks) (b ∷ bytes) = sound-front looks (b ∷ bytes) (λ n. all-sound looks (drop n (b ∷ bytes)))
    (front (b ∷ bytes)) refl

pub page-sound : (version : Version) (text : List ℕ) → AreSound (page_records version text)
page-sound version text = all-sound (length (drop (front_size version) text)) (drop (front_size version) text)

pub none-of : (o : Option PageFault) → is_none o ≡ true → o ≡ None
none-of None e = refl
none-of (Some fault) e = let no : ⊥ = cc in absurd no

parts : (a s b : Bool) (o : Option PageFault)
    → (if not a then Some faults.Head else if s then Some faults.Head else if b then Some faults.CutShort else o) ≡ None
    → (a ≡ true) × (s ≡ false) × (o ≡ None)
parts false s b o e = let no : ⊥ = cc in absurd no
parts true true b o e = let no : ⊥ = cc in absurd no
parts true false true o e = let no : ⊥ = cc in absurd no
parts true false false o e = (refl, refl, e)

at-least : (m n : ℕ) → nat_lt m n ≡ false → n ≤ m
at-least m n e = grind (arith, nat_tests)

same-text : (a b : List ℕ) → bytes_eq a b ≡ true → a ≡ b
same-text a b e = grind (arith, bytes_eq-Decides)

pub record PageParts (version : Version) (text : List ℕ) : Type 0 where
  pub name : take 4 text ≡ page_name version
  pub long : front_size version ≤ length text
  pub records : records_fault PageStart (drop (front_size version) text) ≡ None

pub page-parts : (version : Version) (text : List ℕ) → page_fault version text ≡ None → PageParts version text
page-parts version text e =
    let all = parts (bytes_eq (take 4 text) (page_name version)) (nat_lt (length text) (front_size version))
    (length text == front_size version)
    (records_fault PageStart (drop (front_size version) text)) e in
    record {
      name = same-text (take 4 text) (page_name version) all.0;
      long =
          at-least (length text) (front_size version) all.1;
      records = all.2;
    }

-- what stands before the records is the name and the number
front-is : (text : List ℕ) → AreBytes text → 12 ≤ length text → take 4 text ≡ page_name Two
    → take 12 text ≡ page_front (page_number text)
front-is text below long name =
    let short : nat_lt (length text) 12 ≡ false = le-ltb (length text) 12 long in
    let number : page_number text ≡ from_be_bytes w64 (take 8 (drop 4 text)) =
    ap (λ (b : Bool). if b then 0 else from_be_bytes w64 (take 8 (drop 4 text))) short in
    take-add 4 8 text ∙ ap (λ (l : List ℕ). l ++ take 8 (drop 4 text)) name
    ∙ ap (λ (l : List ℕ). page_name Two ++ l)
    (sym (ap (to_be_bytes w64) number ∙ eight 4 text below (omega (arith, long))))

pub page-spelled : (text : List ℕ) → AreBytes text → is_page text ≡ true
    → text ≡ page_front (page_number text) ++ flat_map record_bytes (page_records Two text)
page-spelled text below e =
    let all = page-parts Two text (none-of (page_fault Two text) e) in
    sym (take-append-drop 12 text) ∙ ap (λ (l : List ℕ). l ++ drop 12 text) (front-is text below all.long all.name)
    ∙ ap (λ (l : List ℕ). page_front (page_number text) ++ l)
    (sym (spelled (length (drop 12 text)) PageStart (drop 12 text) (AreBytes-behind 12 text below)
    (omega arith) all.records))

pub page-ordered : (version : Version) (text : List ℕ) → page_fault version text ≡ None
    → order_fault PageStart (page_records version text) ≡ None
page-ordered version text e = ordered (length (drop (front_size version) text)) PageStart
    (drop (front_size version) text) (omega arith) (page-parts version text e).records

-- ---- a page by its parts

-- a record's bytes alone
pub written-front : (r : Record) → r.source < 2 ^ 16 → r.link < 2 ^ 64 → r.at < 2 ^ 64 → is_sound r ≡ true
    → front (record_bytes r) ≡ Stands r
written-front r source link at sound = ap front (sym (append-nil (record_bytes r)))
    ∙ written-stands r [] source link at sound

pub written-alone : (r : Record) → r.source < 2 ^ 16 → r.link < 2 ^ 64 → r.at < 2 ^ 64 → is_sound r ≡ true
    → records_in (record_bytes r) ≡ r ∷ []
written-alone r source link at sound = ap records_in (sym (append-nil (record_bytes r)))
    ∙ written-listed r [] source link at sound

longer : (n size : ℕ) → size + 1 ≤ n → (n == size) ≡ false
longer n size some = grind (arith, nat_tests)

pub page-made : (version : Version) (text : List ℕ) → take 4 text ≡ page_name version
    → front_size version + 1 ≤ length text → records_fault PageStart (drop (front_size version) text) ≡ None
    → page_fault version text ≡ None
page-made version text name some none =
    let named : bytes_eq (take 4 text) (page_name version) ≡ true = grind (arith, bytes_eq-Decides) in
    let long : nat_lt (length text) (front_size version) ≡ false =
    le-ltb (length text) (front_size version) (omega (arith, some)) in
    let is : (length text == front_size version) ≡ false = longer (length text) (front_size version) some in
    rw (named, long, is) none
