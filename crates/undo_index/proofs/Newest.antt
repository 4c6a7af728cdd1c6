-- The newest item that passes a test, in a list that has the oldest first; where it can stand at one place alone.
use Rattle.std.proofs.Common.{◌≡◌, ℕ, zero, suc, ◌+◌, ◌-◌, ◌<◌, ◌≤◌, Bool, true, false, List, [], ◌∷◌, ◌++◌, length}
use Rattle.std.proofs.Common.{reverse, refl, sym, ap, ◌∙◌, arith, cond, true≢false, get_or, slice_get}
use Rattle.std.specs.Prelude.{Option, Some, None, if◌then◌else◌, nat_lt, ◌||◌}
use Rattle.std.specs.List.{find, list_any, position, position_or_len}
use Rattle.std.proofs.lemmas.Bool.Decides.{nat_tests}
use Rattle.std.proofs.lemmas.List.{get_or-reverse, reverse-append}
use Rattle.std.proofs.lemmas.List.Folds.{find_at}
use Rattle.std.proofs.lemmas.List.Recursion.{is_position_or_len}
use Rattle.std.proofs.lemmas.Option.{slice_get-get_or, slice_get_past, slice_get_within}
use Rattle.undo_index.specs.Newest.{IsNewest, OnlyAt}
use Rattle.undo_index.specs.Hints.{LedBy}

length-push : {A : Type 0} (xs : List A) (x : A) → length (xs ++ x ∷ []) ≡ suc (length xs)
length-push [] x = refl
length-push (a ∷ xs) x = ap suc (length-push xs x)

pub length-reverse : {A : Type 0} (xs : List A) → length (reverse xs) ≡ length xs
length-reverse [] = refl
length-reverse (x ∷ xs) = ap length (reverse-append (x ∷ []) xs) ∙ length-push (reverse xs) x
    ∙ ap suc (length-reverse xs)

pub get-reverse : {A : Type 0} (xs : List A) (k : ℕ) → k < length xs
    → slice_get (reverse xs) k ≡ slice_get xs (length xs - 1 - k)
get-reverse [] k inside = absurd (omega arith)
get-reverse (x ∷ xs) k inside =
    slice_get-get_or (reverse (x ∷ xs)) k x (omega (arith, length-reverse (x ∷ xs)))
    ∙ ap Some (get_or-reverse (x ∷ xs) k x inside)
    ∙ sym (slice_get-get_or (x ∷ xs) (length (x ∷ xs) - 1 - k) x (omega arith))

abbrev place_in : {A : Type 0} (test : A → Bool) → List A → ℕ
place_in test [] = 0
place_in test (x ∷ xs) = if test x then 0 else suc (place_in test xs)

place_in-is : {A : Type 0} (test : A → Bool) (xs : List A) → place_in test xs ≡ position_or_len test xs
place_in-is {A = A} test xs = is_position_or_len (place_in test) test refl more xs
  where
    more : (x : A) (ys : List A) → place_in test (x ∷ ys) ≡ (if test x then 0 else 1 + place_in test ys)
    more x ys = by_test (test x)
      where
        by_test : (b : Bool) → (if b then 0 else suc (place_in test ys)) ≡ (if b then 0 else 1 + place_in test ys)
        by_test true = refl
        by_test false = omega arith

within : (m n : ℕ) → nat_lt m n ≡ true → m < n
within m n h = grind (arith, nat_tests)

past : (m n : ℕ) → nat_lt m n ≡ false → n ≤ m
past m n h = grind (arith, nat_tests)

pub newest-at : {A : Type 0} (test : A → Bool) (xs : List A) (k : ℕ) → position test (reverse xs) ≡ Some k
    → (k < length xs) × IsNewest test xs (length xs - 1 - k)
newest-at {A = A} test xs k e = by_test (nat_lt (position_or_len test (reverse xs)) (length (reverse xs))) refl e
  where
    by_test : (b : Bool) → nat_lt (position_or_len test (reverse xs)) (length (reverse xs)) ≡ b
        → ◌≡◌ {A = Option ℕ} (if b then Some (position_or_len test (reverse xs)) else None) (Some k)
        → (k < length xs) × IsNewest test xs (length xs - 1 - k)
    by_test true h same =
        let at : position_or_len test (reverse xs) ≡ k = cc in
        let few : k < length xs = omega (
          arith,
          within (position_or_len test (reverse xs))
              (length (reverse xs)) h,
          at,
          length-reverse xs,
        ) in (
          few,
          record {
            inside = omega (arith, few);
            newest = find_at test (reverse xs) ∙ ap (slice_get (reverse xs)) at ∙ get-reverse xs k few;
            at_end = omega (arith, at, few);
          },
        )
    by_test false h same = absurd (cc)

pub newest-none : {A : Type 0} (test : A → Bool) (xs : List A) → position test (reverse xs) ≡ None
    → find test (reverse xs) ≡ None
newest-none {A = A} test xs e = by_test (nat_lt (position_or_len test (reverse xs)) (length (reverse xs))) refl e
  where
    by_test : (b : Bool) → nat_lt (position_or_len test (reverse xs)) (length (reverse xs)) ≡ b
        → ◌≡◌ {A = Option ℕ} (if b then Some (position_or_len test (reverse xs)) else None) None
        → find test (reverse xs) ≡ None
    by_test true h same = absurd (cc)
    by_test false h same = find_at test (reverse xs)
        ∙ slice_get_past (reverse xs) (position_or_len test (reverse xs))
        (past (position_or_len test (reverse xs)) (length (reverse xs)) h)

-- ---- where one place is all there is

find-none : {A : Type 0} (test : A → Bool) (xs : List A) → ((i : ℕ) (a : A) → slice_get xs i ≡ Some a → test a ≡ false)
    → find test xs ≡ None
find-none test [] fails = refl
find-none {A = A} test (x ∷ xs) fails = by_test (test x) (fails 0 x refl) (find-none test xs (λ i. fails (suc i)))
  where
    by_test : (b : Bool) → b ≡ false → find test xs ≡ None → ◌≡◌ {A = Option A} (cond b (Some x) (find test xs)) None
    by_test true e rest = absurd (true≢false e)
    by_test false e rest = rest

from-front : {A : Type 0} (xs : List A) (k : ℕ) (a : A) → slice_get (reverse xs) k ≡ Some a
    → slice_get xs (length xs - 1 - k) ≡ Some a
from-front xs k a at =
    let few = slice_get_within (reverse xs) k a at in
    sym (get-reverse xs k (omega (arith, few, length-reverse xs))) ∙ at

pub nowhere : {A : Type 0} (test : A → Bool) (xs : List A)
    → ((i : ℕ) (a : A) → slice_get xs i ≡ Some a → test a ≡ false) → find test (reverse xs) ≡ None
nowhere test xs fails = find-none test (reverse xs) (λ k a at. fails (length xs - 1 - k) a (from-front xs k a at))

is-false : (b : Bool) → (b ≡ true → ⊥) → b ≡ false
is-false true fails = absurd (fails refl)
is-false false fails = refl

pub led-nowhere : {A : Type 0} (test : A → Bool) (xs : List A) → LedBy None test xs → find test (reverse xs) ≡ None
led-nowhere test xs led = nowhere test xs (λ i a at. is-false (test a) (led i a at))

pub only-none : {A : Type 0} (test : A → Bool) (xs : List A) (place : ℕ) → OnlyAt place test xs
    → ((a : A) → slice_get xs place ≡ Some a → test a ≡ false) → find test (reverse xs) ≡ None
only-none test xs place only fails =
    nowhere test xs (λ i a at. is-false (test a)
    (λ h. true≢false (sym h ∙ fails a (ap (slice_get xs) (only i a at h) ∙ at))))

place-only : {A : Type 0} (test : A → Bool) (xs : List A) (k : ℕ) (a : A) → slice_get xs k ≡ Some a → test a ≡ true
    → OnlyAt k test xs → place_in test xs ≡ k
place-only {A = A} test [] k a at h only = let none : List A = [] in
    absurd (omega (arith, slice_get_within none k a at))
place-only {A = A} test (x ∷ xs) zero a at h only = by_test (test x) (ap test (same_some x a at) ∙ h)
  where
    same_some : (b c : A) → ◌≡◌ {A = Option A} (Some b) (Some c) → b ≡ c
    same_some b c e = cc

    by_test : (b : Bool) → b ≡ true → (if b then 0 else suc (place_in test xs)) ≡ 0
    by_test true e = refl
    by_test false e = absurd (true≢false (sym e))
place-only {A = A} test (x ∷ xs) (suc k) a at h only =
    by_test (test x) refl (place-only test xs k a at h (λ i b there passes. less (only (suc i) b there passes)))
  where
    less : {m n : ℕ} → suc m ≡ suc n → m ≡ n
    less e = omega (arith, e)

    by_test : (b : Bool) → test x ≡ b → place_in test xs ≡ k → (if b then 0 else suc (place_in test xs)) ≡ suc k
    by_test true e rest = absurd (omega (arith, only 0 x refl e))
    by_test false e rest = ap suc rest

pub only-newest : {A : Type 0} (test : A → Bool) (xs : List A) (place : ℕ) (a : A) → OnlyAt place test xs
    → slice_get xs place ≡ Some a → test a ≡ true → IsNewest test xs place
only-newest {A = A} test xs place a only at h = record {
  inside = inside;
  newest = find_at test (reverse xs) ∙ ap (slice_get (reverse xs)) at_end ∙ back;
  at_end = at_end;
}
  where
    inside : place < length xs
    inside = slice_get_within xs place a at

    back : slice_get (reverse xs) (length xs - 1 - place) ≡ slice_get xs place
    back = get-reverse xs (length xs - 1 - place) (omega (arith, inside)) ∙ ap (slice_get xs) (omega (arith, inside))

    alone : OnlyAt (length xs - 1 - place) test (reverse xs)
    alone k b there passes =
        let few = slice_get_within (reverse xs) k b there in
        let same = only (length xs - 1 - k) b (from-front xs k b there) passes in
        omega (arith, few, same, length-reverse xs, inside)

    at_end : position_or_len test (reverse xs) ≡ length xs - 1 - place
    at_end = sym (place_in-is test (reverse xs))
        ∙ place-only test (reverse xs) (length xs - 1 - place) a (back ∙ at) h alone

pub found-at : {A : Type 0} (test : A → Bool) (xs : List A) (place : ℕ) (d : A) → IsNewest test xs place
    → find test (reverse xs) ≡ Some (get_or xs place d)
found-at test xs place d newest = newest.newest ∙ slice_get-get_or xs place d newest.inside

-- ---- whether any item passes

pub newest-there : {A : Type 0} (test : A → Bool) (xs : List A) (place : ℕ) → IsNewest test xs place
    → find test (reverse xs) ≡ None → ⊥
newest-there test [] place newest none = absurd (omega (arith, newest.inside))
newest-there test (x ∷ xs) place newest none = let at = slice_get-get_or (x ∷ xs) place x newest.inside in let found =
    newest.newest in cc

find-parts : {A : Type 0} (test : A → Bool) (ys : List A) (x : A) → find test (ys ++ x ∷ []) ≡ None
    → (find test ys ≡ None) × (test x ≡ false)
find-parts {A = A} test [] x none = by_test (test x) none
  where
    by_test : (b : Bool) → ◌≡◌ {A = Option A} (cond b (Some x) None) None → (find test [] ≡ None) × (b ≡ false)
    by_test true e = absurd (cc)
    by_test false e = (refl, refl)
find-parts {A = A} test (y ∷ ys) x none = by_test (test y) (find-parts test ys x) none
  where
    by_test : (b : Bool) → (find test (ys ++ x ∷ []) ≡ None → (find test ys ≡ None) × (test x ≡ false))
        → ◌≡◌ {A = Option A} (cond b (Some y) (find test (ys ++ x ∷ []))) None
        → (◌≡◌ {A = Option A} (cond b (Some y) (find test ys)) None) × (test x ≡ false)
    by_test true rest e = absurd (cc)
    by_test false rest e = rest e

find-whole : {A : Type 0} (test : A → Bool) (ys : List A) (x : A) → find test ys ≡ None → test x ≡ false
    → find test (ys ++ x ∷ []) ≡ None
find-whole {A = A} test [] x none fails = by_test (test x) fails
  where
    by_test : (b : Bool) → b ≡ false → ◌≡◌ {A = Option A} (cond b (Some x) None) None
    by_test true e = absurd (true≢false e)
    by_test false e = refl
find-whole {A = A} test (y ∷ ys) x none fails = by_test (test y) (λ e. find-whole test ys x e fails) none
  where
    by_test : (b : Bool) → (find test ys ≡ None → find test (ys ++ x ∷ []) ≡ None)
        → ◌≡◌ {A = Option A} (cond b (Some y) (find test ys)) None
        → ◌≡◌ {A = Option A} (cond b (Some y) (find test (ys ++ x ∷ []))) None
    by_test true rest e = absurd (cc)
    by_test false rest e = rest e

pub none-any : {A : Type 0} (test : A → Bool) (xs : List A) → find test (reverse xs) ≡ None → list_any test xs ≡ false
none-any test [] none = refl
none-any test (x ∷ xs) none =
    let parts = find-parts test (reverse xs) x (sym (ap (find test) (reverse-append (x ∷ []) xs)) ∙ none) in
    ap (λ b. b || list_any test xs) parts.1 ∙ none-any test xs parts.0

any-none : {A : Type 0} (test : A → Bool) (xs : List A) → list_any test xs ≡ false → find test (reverse xs) ≡ None
any-none test [] fails = refl
any-none {A = A} test (x ∷ xs) fails =
    ap (find test) (reverse-append (x ∷ []) xs)
    ∙ find-whole test (reverse xs) x (any-none test xs (by_first (test x) fails).1) (by_first (test x) fails).0
  where
    by_first : (b : Bool) → (b || list_any test xs) ≡ false → (b ≡ false) × (list_any test xs ≡ false)
    by_first true e = absurd (true≢false e)
    by_first false e = (refl, e)

pub newest-any : {A : Type 0} (test : A → Bool) (xs : List A) (place : ℕ) → IsNewest test xs place
    → list_any test xs ≡ true
newest-any test xs place newest = by_any (list_any test xs) refl
  where
    by_any : (b : Bool) → list_any test xs ≡ b → b ≡ true
    by_any true e = refl
    by_any false e = absurd (newest-there test xs place newest (any-none test xs e))
