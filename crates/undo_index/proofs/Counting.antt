-- What one count more leaves, and that the index leads to it.
use Rattle.std.proofs.Common.{◌≡◌, ℕ, zero, suc, ◌+◌, ◌-◌, ◌<◌, Bool, true, false, List, [], ◌∷◌, ◌++◌, length, reverse}
use Rattle.std.proofs.Common.{refl, sym, ap, ◌∙◌, subst, arith, cond, true≢false, eqb-true, slice_get, slice_set}
use Rattle.std.specs.Prelude.{Option, Some, None, nat_eq, if◌then◌else◌}
use Rattle.std.specs.List.{find, position_or_len}
use Rattle.std.proofs.lemmas.List.{reverse-append}
use Rattle.std.proofs.lemmas.List.Recursion.{is_position_or_len}
use Rattle.undo_index.proofs.Newest.{length-reverse}
use Rattle.undo_index.specs.Hints.{Hints, LeadsTo, hint_of}
use Rattle.undo_index.specs.Newest.{IsNewest}
use Rattle.undo_index.specs.declared.number_count.NumberCount.{NumberCount}
use Rattle.undo_index.specs.declared.number_count.NumberKey.{NumberKey}
use Rattle.undo_index.specs.Counts.{count_or_none, counted, has_number, is_of, one_if, same_number}

-- ---- a number that wasn't there

pub counted-pushed : (cs : List NumberCount) (c : NumberCount) (other : ℕ) → find (is_of c.number) (reverse cs) ≡ None
    → c.count ≡ 1 → counted other (cs ++ c ∷ []) ≡ counted other cs + one_if (nat_eq other c.number)
counted-pushed cs c other none one =
    ap (λ (xs : List NumberCount). count_or_none (find (is_of other) xs)) (reverse-append cs (c ∷ []))
    ∙ by_test (nat_eq other c.number) refl
  where
    by_test : (b : Bool) → nat_eq other c.number ≡ b
        → count_or_none (cond b (Some c) (find (is_of other) (reverse cs))) ≡ counted other cs + one_if b
    by_test true e =
        let never : counted other cs ≡ 0 = ap count_or_none
        (ap (λ n. find (is_of n) (reverse cs)) (eqb-true other c.number e) ∙ none) in
        omega (arith, one, never)
    by_test false e = omega arith

-- ---- a number that was there

abbrev place_in : {A : Type 0} (test : A → Bool) → List A → ℕ
place_in test [] = 0
place_in test (x ∷ xs) = if test x then 0 else suc (place_in test xs)

place_in-is : {A : Type 0} (test : A → Bool) (xs : List A) → place_in test xs ≡ position_or_len test xs
place_in-is {A = A} test xs = is_position_or_len (place_in test) test refl more xs
  where
    more : (x : A) (ys : List A) → place_in test (x ∷ ys) ≡ (if test x then 0 else 1 + place_in test ys)
    more x ys = by_test (test x)
      where
        by_test : (b : Bool) → (if b then 0 else suc (place_in test ys)) ≡ (if b then 0 else 1 + place_in test ys)
        by_test true = refl
        by_test false = omega arith

set-last : {A : Type 0} (xs : List A) (y x : A) → slice_set (xs ++ y ∷ []) (length xs) x ≡ xs ++ x ∷ []
set-last [] y x = refl
set-last (a ∷ xs) y x = ap (λ zs. a ∷ zs) (set-last xs y x)

set-front : {A : Type 0} (xs : List A) (y x : A) (k : ℕ) → k < length xs
    → slice_set (xs ++ y ∷ []) k x ≡ slice_set xs k x ++ y ∷ []
set-front [] y x k inside = absurd (omega arith)
set-front (a ∷ xs) y x zero inside = refl
set-front (a ∷ xs) y x (suc k) inside = ap (λ zs. a ∷ zs) (set-front xs y x k (omega arith))

set-reverse : {A : Type 0} (xs : List A) (j : ℕ) (x : A) → j < length xs
    → reverse (slice_set xs j x) ≡ slice_set (reverse xs) (length xs - 1 - j) x
set-reverse [] j x inside = absurd (omega arith)
set-reverse {A = A} (y ∷ ys) zero x inside =
    let at : length (y ∷ ys) - 1 - 0 ≡ length (reverse ys) = omega (arith, length-reverse ys) in
    reverse-append (x ∷ []) ys
    ∙ sym (set-last (reverse ys) y x)
    ∙ ap (λ n. slice_set (reverse ys ++ y ∷ []) n x) (sym at)
    ∙ ap (λ zs. slice_set zs (length (y ∷ ys) - 1 - 0) x) (sym (reverse-append (y ∷ []) ys))
set-reverse {A = A} (y ∷ ys) (suc j) x inside =
    let at : length ys - 1 - j ≡ length (y ∷ ys) - 1 - suc j = omega arith in
    reverse-append (y ∷ []) (slice_set ys j x)
    ∙ ap (λ zs. zs ++ y ∷ []) (set-reverse ys j x (omega arith))
    ∙ sym (set-front (reverse ys) y x (length ys - 1 - j) (omega (arith, length-reverse ys)))
    ∙ ap (λ n. slice_set (reverse ys ++ y ∷ []) n x) at
    ∙ ap (λ zs. slice_set zs (length (y ∷ ys) - 1 - suc j) x) (sym (reverse-append (y ∷ []) ys))

same-some : {A : Type 0} (a b : A) → ◌≡◌ {A = Option A} (Some a) (Some b) → a ≡ b
same-some a b e = cc

found-passes : {A : Type 0} (test : A → Bool) (xs : List A) (x : A) → find test xs ≡ Some x → test x ≡ true
found-passes test [] x found = absurd (cc)
found-passes {A = A} test (y ∷ ys) x found = by_test (test y) refl found (λ later. found-passes test ys x later)
  where
    by_test : (b : Bool) → test y ≡ b → ◌≡◌ {A = Option A} (cond b (Some y) (find test ys)) (Some x)
        → (find test ys ≡ Some x → test x ≡ true) → test x ≡ true
    by_test true e found later = ap test (sym (same-some y x found)) ∙ e
    by_test false e found later = later found

-- the first with the number is raised by one
raised-in : (ys : List NumberCount) (number other : ℕ) (was now : NumberCount) → find (is_of number) ys ≡ Some was
    → now.number ≡ number → now.count ≡ was.count + 1
    → count_or_none (find (is_of other) (slice_set ys (place_in (is_of number) ys) now))
    ≡ count_or_none (find (is_of other) ys) + one_if (nat_eq other number)
raised-in [] number other was now found own one = absurd (cc)
raised-in (y ∷ ys) number other was now found own one =
    by_own (nat_eq number y.number) refl found (λ later. raised-in ys number other was now later own one)
  where
    at_front : (b : Bool) → y.count ≡ was.count
        → count_or_none (cond b (Some now) (find (is_of other) ys))
        ≡ count_or_none (cond b (Some y) (find (is_of other) ys)) + one_if b
    at_front true same = omega (arith, same, one)
    at_front false same = omega arith

    behind : (b c : Bool) → nat_eq other y.number ≡ b → nat_eq other number ≡ c → nat_eq number y.number ≡ false
        → count_or_none (find (is_of other) (slice_set ys (place_in (is_of number) ys) now))
        ≡ count_or_none (find (is_of other) ys) + one_if c
        → count_or_none (cond b (Some y) (find (is_of other) (slice_set ys (place_in (is_of number) ys) now)))
        ≡ count_or_none (cond b (Some y) (find (is_of other) ys)) + one_if c
    behind true true e f apart rest =
        let same : other ≡ number = eqb-true other number f in
        absurd (true≢false (sym e ∙ ap (λ n. nat_eq n y.number) same ∙ apart))
    behind true false e f apart rest = omega arith
    behind false c e f apart rest = rest

    by_own : (b : Bool) → nat_eq number y.number ≡ b
        → ◌≡◌ {A = Option NumberCount} (cond b (Some y) (find (is_of number) ys)) (Some was)
        → (find (is_of number) ys ≡ Some was → count_or_none
        (find (is_of other) (slice_set ys (place_in (is_of number) ys) now))
        ≡ count_or_none (find (is_of other) ys) + one_if (nat_eq other number))
        → count_or_none (find (is_of other) (slice_set (y ∷ ys)
        (if b then 0 else suc (place_in (is_of number) ys)) now))
        ≡ count_or_none (find (is_of other) (y ∷ ys)) + one_if (nat_eq other number)
    by_own true e first later =
        let its : number ≡ y.number = eqb-true number y.number e in
        let front = at_front (nat_eq other number) (ap (λ (c : NumberCount). c.count) (same-some y was first)) in
        ap (λ n. count_or_none (cond (nat_eq other n) (Some now) (find (is_of other) ys))) own
        ∙ front
        ∙ ap (λ n. count_or_none (cond (nat_eq other n) (Some y) (find (is_of other) ys)) + one_if
        (nat_eq other number)) its
    by_own false e first later = behind (nat_eq other y.number) (nat_eq other number) refl refl e (later first)

pub counted-raised : (cs : List NumberCount) (number place other : ℕ) (was now : NumberCount)
    → IsNewest (is_of number) cs place → slice_get cs place ≡ Some was → now.number ≡ number → now.count ≡ was.count + 1
    → counted other (slice_set cs place now) ≡ counted other cs + one_if (nat_eq other number)
counted-raised cs number place other was now newest at own one =
    ap (λ (xs : List NumberCount). count_or_none (find (is_of other) xs)) (set-reverse cs place now newest.inside)
    ∙ ap (λ n. count_or_none (find (is_of other) (slice_set (reverse cs) n now)))
    (sym newest.at_end ∙ sym (place_in-is (is_of number) (reverse cs)))
    ∙ raised-in (reverse cs) number other was now (newest.newest ∙ at) own one

-- the count at the newest place is that of the number
pub count-at : (cs : List NumberCount) (number place : ℕ) (c : NumberCount) → IsNewest (is_of number) cs place
    → slice_get cs place ≡ Some c → counted number cs ≡ c.count
count-at cs number place c newest at = ap count_or_none (newest.newest ∙ at)

-- it has the number
pub number-at : (cs : List NumberCount) (number place : ℕ) (c : NumberCount) → IsNewest (is_of number) cs place
    → slice_get cs place ≡ Some c → number ≡ c.number
number-at cs number place c newest at = eqb-true number c.number
    (found-passes (is_of number) (reverse cs) c (newest.newest ∙ at))

-- ---- the index

pub key-leads : (h : Hints NumberKey) (number place : ℕ)
    → LeadsTo (hint_of same_number h (record { number = number })) place → (c : NumberCount) → c.number ≡ number
    → (k : NumberKey) → has_number k c ≡ true → LeadsTo (hint_of same_number h k) place
key-leads h number place leads c own k t =
    let same : k.number ≡ number = eqb-true k.number c.number t ∙ own in
    subst (λ n. LeadsTo (hint_of same_number h (record { number = n })) place) (sym same) leads
