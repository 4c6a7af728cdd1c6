-- The one item of a list.
use Rattle.std.proofs.Common.{◌≡◌, ℕ, zero, suc, ◌<◌, List, [], ◌∷◌, length, slice_set, refl, arith}

-- in its place another one
pub set-one : {A : Type 0} (xs : List A) (place : ℕ) (x : A) → length xs ≡ 1 → place < length xs
    → x ∷ [] ≡ slice_set xs place x
set-one [] place x e inside = absurd (omega arith)
set-one (y ∷ []) zero x e inside = refl
set-one (y ∷ []) (suc place) x e inside = absurd (omega arith)
set-one (y ∷ z ∷ zs) place x e inside = absurd (omega arith)
