-- What is seen can be printed.
use Rattle.std.proofs.Common.{◌≡◌, Bool, true, false, ℕ, List, [], ◌∷◌, refl, arith}
use Rattle.std.specs.Prelude.{◌&&◌}
use Rattle.std.specs.List.{list_all}
use Rattle.std.proofs.lemmas.Bool.{false≢true}
use Rattle.std.proofs.lemmas.Bool.Decides.{nat_tests}
use Rattle.wire_law.specs.Printable.{is_printable, is_visible}

parts : (a b : Bool) → (a && b) ≡ true → (a ≡ true) × (b ≡ true)
parts true b h = (refl, h)
parts false b h = absurd (false≢true h)

printable : (b : ℕ) → is_visible b ≡ true → is_printable b ≡ true
printable b h = grind (arith, nat_tests)

pub printable-visible : (bs : List ℕ) → list_all is_visible bs ≡ true → list_all is_printable bs ≡ true
printable-visible [] h = refl
printable-visible (b ∷ bs) h =
    let p = parts (is_visible b) (list_all is_visible bs) h in
    rw (printable b p.0, printable-visible bs p.1) refl
