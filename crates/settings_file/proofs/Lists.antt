-- Tests of lists that are seen through a function.
use Rattle.std.proofs.Common.{◌≡◌, Bool, List, [], ◌∷◌, map, refl}
use Rattle.std.specs.List.{list_all, list_any}

pub any-seen : {X Y : Type 0} (f : X → Y) (p : Y → Bool) (xs : List X)
    → list_any p (map f xs) ≡ list_any (λ x. p (f x)) xs
any-seen f p [] = refl
any-seen f p (x ∷ xs) = rw (any-seen f p xs) refl

pub all-seen : {X Y : Type 0} (f : X → Y) (p : Y → Bool) (xs : List X)
    → list_all p (map f xs) ≡ list_all (λ x. p (f x)) xs
all-seen f p [] = refl
all-seen f p (x ∷ xs) = rw (all-seen f p xs) refl
