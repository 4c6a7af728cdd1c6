-- Every item of a list is settled or put back, one after another: what f is of each becomes what g was of it, which
-- stays.
use Rattle.std.proofs.Common.{◌≡◌, ℕ, zero, suc, ◌+◌, ◌<◌, List, [], ◌∷◌, length, map, take, get_or, slice_set, refl}
use Rattle.std.proofs.Common.{sym, ap, ◌∙◌, arith}

pub kept-of : {A B : Type 0} (f : A → B) (xs : List A) (p : ℕ) (y d : A) → f y ≡ f (get_or xs p d)
    → map f (slice_set xs p y) ≡ map f xs
kept-of f [] p y d same = refl
kept-of f (z ∷ zs) zero y d same = ap (λ b. b ∷ map f zs) same
kept-of f (z ∷ zs) (suc p) y d same = ap (λ bs. f z ∷ bs) (kept-of f zs p y d same)

taken-more : {A B : Type 0} (f g : A → B) (xs zs : List A) (i : ℕ) (y d : A) → i < length xs → f y ≡ g (get_or xs i d)
    → map g xs ≡ map g zs
    → take i (map f xs) ≡ take i (map g xs) → take (suc i) (map f (slice_set xs i y)) ≡ take (suc i) (map g xs)
taken-more f g [] zs i y d inside there same before = absurd (omega (arith, inside))
taken-more f g (x ∷ xs) zs zero y d inside there same before = ap (λ b. b ∷ []) there
taken-more {B = B} f g (x ∷ xs) zs (suc i) y d inside there same before =
    heads (f x) (g x) (take i (map f xs)) (take i (map g xs)) before
    (taken-more f g xs xs i y d (omega (arith, inside)) there refl)
  where
    heads : (b c : B) (bs cs : List B) → b ∷ bs ≡ c ∷ cs
        → (bs ≡ cs → take (suc i) (map f (slice_set xs i y)) ≡ take (suc i) (map g xs))
        → b ∷ take (suc i) (map f (slice_set xs i y)) ≡ c ∷ take (suc i) (map g xs)
    heads b c bs cs e rest = let first : b ≡ c = cc in let others : bs ≡ cs = cc in (λ j. first j ∷ rest others j)

-- one item more
pub one-more : {A B : Type 0} (f g : A → B) (xs zs : List A) (i : ℕ) (y d : A) → i < length xs → g y ≡ g (get_or xs i d)
    → f y ≡ g (get_or xs i d)
    → (map g xs ≡ map g zs) × (take i (map f xs) ≡ take i (map g zs))
    → (map g (slice_set xs i y) ≡ map g zs) × (take (i + 1) (map f (slice_set xs i y)) ≡ take (i + 1) (map g zs))
one-more f g xs zs i y d inside stays becomes before =
    let next : i + 1 ≡ suc i = omega arith in (
      kept-of g xs i y d stays ∙ before.0,
      ap (λ n. take n (map f (slice_set xs i y))) next
          ∙ taken-more f g xs zs i y d inside becomes before.0 (before.1 ∙ ap (take i) (sym before.0))
          ∙ ap (take (suc i)) before.0
          ∙ sym (ap (λ n. take n (map g zs)) next),
    )
