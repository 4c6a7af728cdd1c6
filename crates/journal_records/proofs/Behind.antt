-- What can be written of records together can be of each part of them.
use Rattle.std.proofs.Common.{◌<◌, ◌≡◌, ℕ, zero, suc, List, [], ◌∷◌, ◌++◌, length, get_or, sym, subst, arith}
use Rattle.std.specs.Prelude.{map}
use Rattle.journal_pages.specs.Ordered.{AreWritable, IsWritable}
use Rattle.journal_pages.specs.Record.{Record}

pub first-writable : (xs ys : List Record) → AreWritable (xs ++ ys) → AreWritable xs
first-writable [] ys all = tt
first-writable (x ∷ xs) ys all = (all.0, first-writable xs ys all.1)

pub later-writable : (xs ys : List Record) → AreWritable (xs ++ ys) → AreWritable ys
later-writable [] ys all = all
later-writable (x ∷ xs) ys all = later-writable xs ys all.1

-- one of a list
pub writable-at : {X : Type 0} (f : X → Record) (xs : List X) (i : ℕ) (x : X) → i < length xs → x ≡ get_or xs i x
    → AreWritable (map f xs) → IsWritable (f x)
writable-at f [] i x inside is all = absurd (omega (arith, inside))
writable-at {X = X} f (y ∷ ys) zero x inside is all = subst (λ (z : X). IsWritable (f z)) (sym is) all.0
writable-at f (y ∷ ys) (suc i) x inside is all = writable-at f ys i x (omega (arith, inside)) is all.1

-- one of a list that is made of another
pub writable-of : {X Y : Type 0} (f : Y → Record) (g : X → Y) (xs : List X) (i : ℕ) (x : X) → i < length xs
    → x ≡ get_or xs i x → AreWritable (map f (map g xs)) → IsWritable (f (g x))
writable-of f g [] i x inside is all = absurd (omega (arith, inside))
writable-of {X = X} f g (y ∷ ys) zero x inside is all = subst (λ (z : X). IsWritable (f (g z))) (sym is) all.0
writable-of f g (y ∷ ys) (suc i) x inside is all = writable-of f g ys i x (omega (arith, inside)) is all.1
