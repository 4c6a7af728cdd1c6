-- What holds of one item of a list holds of one of them.
use Rattle.std.proofs.Common.{◌≡◌, ◌<◌, ℕ, suc, zero, Bool, true, false, List, [], ◌∷◌, map, length, get_or, refl, sym}
use Rattle.std.proofs.Common.{ap, ◌∙◌, arith}
use Rattle.std.specs.Prelude.{◌||◌}
use Rattle.std.specs.List.{list_any}

or-true : (b : Bool) → (b || true) ≡ true
or-true true = refl
or-true false = refl

-- what holds of the one at a place holds of one
pub any-at : {X Y : Type 0} (f : X → Y) (p : Y → Bool) (xs : List X) (i : ℕ) (x : X) → i < length xs → x ≡ get_or xs i x
    → p (f x) ≡ true → list_any p (map f xs) ≡ true
any-at f p [] i x inside is holds = absurd (omega arith)
any-at f p (y ∷ ys) zero x inside is holds =
    ap (λ (z : Bool). z || list_any p (map f ys)) (ap (λ z. p (f z)) (sym is) ∙ holds)
any-at f p (y ∷ ys) (suc i) x inside is holds =
    ap (λ (z : Bool). p (f y) || z) (any-at f p ys i x (omega arith) is holds) ∙ or-true (p (f y))
