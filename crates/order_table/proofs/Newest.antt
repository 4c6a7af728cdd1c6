-- The newest order that passes a test, in a list that has the oldest first.
use Rattle.std.proofs.Common.{◌≡◌, ℕ, zero, suc, ◌+◌, ◌-◌, ◌<◌, ◌^◌, Bool, true, false, List, [], ◌∷◌, ◌++◌, length}
use Rattle.std.proofs.Common.{map, reverse, refl, sym, ap, ◌∙◌, arith, decimal, bytes_eq, get_or, slice_get, slice_set}
use Rattle.std.proofs.Common.{eq-eqb, eqb-true}
use Rattle.std.specs.Prelude.{Option, Some, if◌then◌else◌, ◌==◌}
use Rattle.std.specs.List.{count_by, find, position_or_len}
use Rattle.std.proofs.lemmas.List.{map-append, reverse-append}
use Rattle.std.proofs.lemmas.List.Recursion.{is_position_or_len}
use Rattle.std.proofs.lemmas.Option.{slice_get-get_or}
use Rattle.order_machine.specs.OrderRecord.{OrderRecord}
use Rattle.order_machine.specs.Table.{has_number, put}
use Rattle.undo_index.proofs.Newest.{length-reverse}
use Rattle.undo_index.specs.Newest.{IsNewest}
use Rattle.undo_orders.specs.orders.order_law.History.{Entry}
use Rattle.order_machine.proofs.Executed.{count-more}
use Rattle.order_machine.proofs.Lists.{count-push, found-passes}
use Rattle.order_machine.proofs.Texts.{decimal-same, eq-is, eq-other, eq-true}

-- ---- numbers and their texts

pub number-test : (m n : ℕ) → m < 2 ^ 64 → n < 2 ^ 64 → (m == n) ≡ bytes_eq (decimal m) (decimal n)
number-test m n m_small n_small = by_test (m == n) refl
  where
    by_test : (b : Bool) → (m == n) ≡ b → b ≡ bytes_eq (decimal m) (decimal n)
    by_test true e = sym (eq-true (decimal m) (decimal n) (ap decimal (eqb-true m n e)))
    by_test false e = sym (eq-other (decimal m) (decimal n)
        (λ same. (let alike : m ≡ n = decimal-same m n (omega arith) (omega arith) same in let on : (m == n) ≡ true =
        eq-eqb m n alike in let x : true ≡ false = sym on ∙ e in cc)))

-- ---- lists from their ends

set-last : {A : Type 0} (xs : List A) (y x : A) → slice_set (xs ++ y ∷ []) (length xs) x ≡ xs ++ x ∷ []
set-last [] y x = refl
set-last (a ∷ xs) y x = ap (λ zs. a ∷ zs) (set-last xs y x)

set-front : {A : Type 0} (xs : List A) (y x : A) (k : ℕ) → k < length xs
    → slice_set (xs ++ y ∷ []) k x ≡ slice_set xs k x ++ y ∷ []
set-front [] y x k inside = absurd (omega arith)
set-front (a ∷ xs) y x zero inside = refl
set-front (a ∷ xs) y x (suc k) inside = ap (λ zs. a ∷ zs) (set-front xs y x k (omega arith))

pub set-reverse : {A : Type 0} (xs : List A) (j : ℕ) (x : A) → j < length xs
    → reverse (slice_set xs j x) ≡ slice_set (reverse xs) (length xs - 1 - j) x
set-reverse [] j x inside = absurd (omega arith)
set-reverse {A = A} (y ∷ ys) zero x inside =
    let at : length (y ∷ ys) - 1 - 0 ≡ length (reverse ys) = omega (arith, length-reverse ys) in
    reverse-append (x ∷ []) ys
    ∙ sym (set-last (reverse ys) y x)
    ∙ ap (λ n. slice_set (reverse ys ++ y ∷ []) n x) (sym at)
    ∙ ap (λ zs. slice_set zs (length (y ∷ ys) - 1 - 0) x) (sym (reverse-append (y ∷ []) ys))
set-reverse {A = A} (y ∷ ys) (suc j) x inside =
    let at : length ys - 1 - j ≡ length (y ∷ ys) - 1 - suc j = omega arith in
    reverse-append (y ∷ []) (slice_set ys j x)
    ∙ ap (λ zs. zs ++ y ∷ []) (set-reverse ys j x (omega arith))
    ∙ sym (set-front (reverse ys) y x (length ys - 1 - j) (omega (arith, length-reverse ys)))
    ∙ ap (λ n. slice_set (reverse ys ++ y ∷ []) n x) at
    ∙ ap (λ zs. slice_set zs (length (y ∷ ys) - 1 - suc j) x) (sym (reverse-append (y ∷ []) ys))

-- ---- the order with a number

abbrev place_in : {A : Type 0} (test : A → Bool) → List A → ℕ
place_in test [] = 0
place_in test (x ∷ xs) = if test x then 0 else suc (place_in test xs)

place_in-is : {A : Type 0} (test : A → Bool) (xs : List A) → place_in test xs ≡ position_or_len test xs
place_in-is {A = A} test xs = is_position_or_len (place_in test) test refl more xs
  where
    more : (x : A) (ys : List A) → place_in test (x ∷ ys) ≡ (if test x then 0 else 1 + place_in test ys)
    more x ys = by_test (test x)
      where
        by_test : (b : Bool) → (if b then 0 else suc (place_in test ys)) ≡ (if b then 0 else 1 + place_in test ys)
        by_test true = refl
        by_test false = omega arith

put-in : (p : OrderRecord) (os : List OrderRecord) → put p os ≡ slice_set os (place_in (has_number p.new.order) os) p
put-in p [] = refl
put-in p (o ∷ os) = by_number (has_number p.new.order o) (put-in p os)
  where
    by_number : (b : Bool) → put p os ≡ slice_set os (place_in (has_number p.new.order) os) p
        → (if b then p ∷ os else o ∷ put p os) ≡ slice_set (o ∷ os)
        (if b then 0 else suc (place_in (has_number p.new.order) os)) p
    by_number true e = refl
    by_number false e = ap (λ xs. o ∷ xs) e

put-place : (p : OrderRecord) (os : List OrderRecord)
    → put p os ≡ slice_set os (position_or_len (has_number p.new.order) os) p
put-place p os = put-in p os ∙ ap (λ n. slice_set os n p) (place_in-is (has_number p.new.order) os)

-- an order with the number, written at the place
pub put-newest : (order : List ℕ) (xs : List OrderRecord) (place : ℕ) (p : OrderRecord)
    → IsNewest (has_number order) xs place → p.new.order ≡ order → put p (reverse xs) ≡ reverse (slice_set xs place p)
put-newest order xs place p newest same =
    put-place p (reverse xs)
    ∙ ap (λ (k : List ℕ). slice_set (reverse xs) (position_or_len (has_number k) (reverse xs)) p) same
    ∙ ap (λ n. slice_set (reverse xs) n p) newest.at_end
    ∙ sym (set-reverse xs place p newest.inside)

-- ---- what is written

pub same_some : {A : Type 0} (a b : A) → ◌≡◌ {A = Option A} (Some a) (Some b) → a ≡ b
same_some a b e = cc

-- the newest order with a number, made another that keeps its message
pub change-newest : (order : List ℕ) (xs : List OrderRecord) (place : ℕ) (was : OrderRecord)
    (F : OrderRecord → OrderRecord) → ((x : OrderRecord) → (F x).new ≡ x.new)
    → IsNewest (has_number order) xs place → slice_get xs place ≡ Some was
    → (o : OrderRecord) → find (has_number order) (reverse xs) ≡ Some o
    → reverse (slice_set xs place (F was)) ≡ put (F o) (reverse xs)
change-newest order xs place was F keeps newest at o found =
    let it : was ≡ o = same_some was o (sym at ∙ sym newest.newest ∙ found) in
    let own : o.new.order ≡ order = eq-is o.new.order order (found-passes (has_number order) (reverse xs) o found) in
    ap (λ x. reverse (slice_set xs place (F x))) it
    ∙ sym (put-newest order xs place (F o) newest (ap (λ (e : Entry). e.order) (keeps o) ∙ own))

-- ---- counts

pub count-reverse : {A : Type 0} (test : A → Bool) (xs : List A) → count_by test (reverse xs) ≡ count_by test xs
count-reverse test [] = refl
count-reverse {A = A} test (x ∷ xs) =
    ap (count_by test) (reverse-append (x ∷ []) xs)
    ∙ (let pushed = count-push test (reverse xs) x in let rest = count-reverse test xs in let first =
    count-more test x xs in omega (arith, pushed, rest, first))

-- ---- one trade more

pub trades-pushed : {A B : Type 0} (f : A → B) (xs : List A) (x : A)
    → reverse (map f (xs ++ x ∷ [])) ≡ f x ∷ reverse (map f xs)
trades-pushed f xs x = ap reverse (map-append f xs (x ∷ [])) ∙ reverse-append (map f xs) (f x ∷ [])

-- what stands at a place
pub at-place : {A : Type 0} (test : A → Bool) (xs : List A) (i : ℕ) (x y : A) → IsNewest test xs i → x ≡ get_or xs i x
    → y ≡ x → slice_get xs i ≡ Some y
at-place test xs i x y newest value same = slice_get-get_or xs i x newest.inside ∙ ap Some (sym (same ∙ value))
