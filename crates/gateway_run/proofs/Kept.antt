-- What holds of each of a list's elements.
use Rattle.std.proofs.Common.{◌≡◌, ap, refl, subst, sym, All, ℕ, Bool, true, false, List, [], ◌∷◌, ◌++◌}
use Rattle.std.specs.Prelude.{None, Option, Some, if◌then◌else◌, slice_get}
use Rattle.std.proofs.lemmas.List.Elements.{All-push}
use Rattle.std.proofs.lemmas.Option.{slice_get-get_or}

-- once one of which it holds may have come to them
pub pushed : {A : Type 0} (ok : Bool) (old new : List A) (x : A) → new ≡ (if ok then old ++ x ∷ [] else old)
    → (P : A → Type 0) → All P old → P x → All P new
pushed true old new x e P all one = subst (All P) (sym e) (All-push P old x all one)
pushed false old new x e P all one = subst (All P) (sym e) all

-- where it holds of the one at each position
pub at_each : {A : Type 0} (P : A → Type 0) (xs : List A) → ((d : ℕ) (x : A) → slice_get xs d ≡ Some x → P x) → All P xs
at_each P xs each = λ k d inside. each k _ (slice_get-get_or xs k d inside)
