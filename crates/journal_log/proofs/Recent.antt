-- What is said of all pages by those in memory.
use Rattle.std.proofs.Common.{inl, inr, ◌≡◌, ◌<◌, ◌%◌, ◌^◌, ℕ, zero, suc, ◌+◌, ◌-◌, None, List, [], ◌∷◌, ◌++◌, Vec, length}
use Rattle.std.proofs.Common.{drop, refl, sym, ap, ◌∙◌, arith, length-append}
use Rattle.std.specs.Prelude.{◌⊎◌}
use Rattle.std.specs.declared.alloc.Global.{Global}
use Rattle.journal_pages.specs.declared.version.Version.TheVariants.{Two}
use Rattle.gate_journal.specs.Tail.{AreLast}
use Rattle.journal_days.specs.Cut.{last_size, next_number, texts}
use Rattle.journal_days.specs.Day.{day_fault, day_records}
use Rattle.journal_days.proofs.Leading.{From, Leads, behind, leads-of, start}
use Rattle.journal_log.specs.Since.{IsBefore, bytes_from, bytes_of, bytes_since}
use Rattle.journal_log.proofs.Behind.{records-count}

pub texts-drop : (n : ℕ) (pages : List (Vec ℕ Global)) → texts (drop n pages) ≡ drop n (texts pages)
texts-drop zero pages = refl
texts-drop (suc n) [] = refl
texts-drop (suc n) (page ∷ pages) = texts-drop n pages

-- ---- where all pages end

pub last-count : (left : ℕ) (pages all : List (List ℕ)) → AreLast left pages all → length all ≡ left + length pages
last-count left pages all l =
    let many = length-append l.front pages in
    let whole = ap length l.parts in
    omega (arith, many, whole, l.count)

size-behind : (front : List (List ℕ)) (p : List ℕ) (ps : List (List ℕ))
    → last_size (front ++ p ∷ ps) ≡ last_size (p ∷ ps)
size-behind [] p ps = refl
size-behind (f ∷ []) p ps = refl
size-behind (f ∷ g ∷ front) p ps = size-behind (g ∷ front) p ps

number-last : (front : List (List ℕ)) (p : List ℕ) (ps : List (List ℕ))
    → next_number (front ++ p ∷ ps) ≡ next_number (p ∷ ps)
number-last [] p ps = refl
number-last (f ∷ []) p ps = refl
number-last (f ∷ g ∷ front) p ps = number-last (g ∷ front) p ps

pub last-sized : (left : ℕ) (pages all : List (List ℕ)) → AreLast left pages all → last_size all ≡ last_size pages
last-sized left [] all l = ap last_size (l.parts ∙ ap (λ (f : List (List ℕ)). f ++ []) (l.some refl))
last-sized left (p ∷ ps) all l = ap last_size l.parts ∙ size-behind l.front p ps

last-numbered : (left : ℕ) (pages all : List (List ℕ)) → AreLast left pages all → next_number all ≡ next_number pages
last-numbered left [] all l = ap next_number (l.parts ∙ ap (λ (f : List (List ℕ)). f ++ []) (l.some refl))
last-numbered left (p ∷ ps) all l = ap next_number l.parts ∙ number-last l.front p ps

-- ---- how many records there are

leads-number : (p q : From) (page : List ℕ) (pages : List (List ℕ)) → Leads Two p (page ∷ pages) q
    → next_number (page ∷ pages) ≡ q.number
leads-number p q page [] l = ap (λ (f : From). f.number) l.1
leads-number p q page (next ∷ pages) l = leads-number (behind Two p page) q next pages l.1

counts : (pages : List (List ℕ)) → day_fault Two pages ≡ None
    → next_number pages ≡ length (day_records Two pages) % 2 ^ 64
counts [] day = omega arith
counts (page ∷ pages) day =
    let on = leads-of Two (page ∷ pages) day in
    let number = leads-number start on.to page pages on.leads in
    let count = records-count start on.to (page ∷ pages) on.leads (omega arith) in
    omega (arith, number, count)

pub last-counted : (left : ℕ) (pages all : List (List ℕ)) → AreLast left pages all → day_fault Two all ≡ None
    → next_number pages ≡ length (day_records Two all) % 2 ^ 64
last-counted left pages all l day = sym (last-numbered left pages all l) ∙ counts all day

-- ---- what stands behind a mark

drop-behind : (front pages : List (List ℕ)) (n c : ℕ) → length front + c ≡ n
    → drop n (front ++ pages) ≡ drop c pages
drop-behind [] pages n c e = let same : n ≡ c = omega (arith, e) in ap (λ k. drop k pages) same
drop-behind (f ∷ front) pages zero c e = absurd (omega (arith, e))
drop-behind (f ∷ front) pages (suc n) c e = drop-behind front pages n c (omega (arith, e))

since-behind : (bytes : ℕ) (front pages : List (List ℕ)) (n c : ℕ) → length front + c ≡ n
    → (length front ≡ 0) ⊎ (length front < n)
    → bytes_since n bytes (front ++ pages) ≡ bytes_since c bytes pages
since-behind bytes [] pages n c e s = let same : n ≡ c = omega (arith, e) in ap (λ k. bytes_since k bytes pages) same
since-behind bytes (f ∷ front) pages n c e (inl none) = absurd (omega (arith, none))
since-behind bytes (f ∷ front) pages zero c e (inr few) = absurd (omega (arith, few))
since-behind bytes (f ∷ front) pages (suc n) zero e (inr few) = absurd (omega (arith, few, e))
since-behind bytes (f ∷ front) pages (suc n) (suc c) e (inr few) =
    ap (bytes_from bytes) (drop-behind (f ∷ front) pages n c (omega (arith, e)))

by-count : (left n : ℕ) (front : List (List ℕ)) → length front ≡ left → (left ≡ 0) ⊎ (left < n)
    → (length front ≡ 0) ⊎ (length front < n)
by-count left n front e (inl none) = inl (e ∙ none)
by-count left n front e (inr few) = inr (omega (arith, e, few))

pub since-last : (left : ℕ) (pages all : List (List ℕ)) (n c bytes : ℕ) → AreLast left pages all → IsBefore left n c
    → bytes_since n bytes all ≡ bytes_since c bytes pages
since-last left pages all n c bytes l is =
    ap (bytes_since n bytes) l.parts
    ∙ since-behind bytes l.front pages n c (omega (arith, l.count, is.sum)) (by-count left n l.front l.count is.stands)

-- the bytes behind a mark, of pages as they are in memory
pub since-texts : (count bytes : ℕ) (pages rest : List (Vec ℕ Global)) → (count ≡ 0 → ⊥)
    → rest ≡ drop (count - 1) pages → bytes_from bytes (texts rest) ≡ bytes_since count bytes (texts pages)
since-texts zero bytes pages rest some is = absurd (some refl)
since-texts (suc n) bytes pages rest some is =
    let same : suc n - 1 ≡ n = omega arith in
    ap (λ (l : List (Vec ℕ Global)). bytes_from bytes (texts l)) (is ∙ ap (λ k. drop k pages) same)
    ∙ ap (bytes_from bytes) (texts-drop n pages)

-- the bytes of whole pages
pub all-pieces : (pages : List (List ℕ)) → bytes_from 12 pages ≡ bytes_of pages
all-pieces [] = refl
all-pieces (page ∷ pages) = refl
