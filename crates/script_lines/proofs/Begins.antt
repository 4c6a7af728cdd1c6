-- Lines by what they begin with.
use Rattle.std.proofs.Common.{◌≡◌, ◌∙◌, ℕ, true, List, [], ◌∷◌, ◌++◌, take, drop, refl, sym, ap}
use Rattle.std.specs.Str.{bytes_eq}
use Rattle.std.proofs.lemmas.Bool.{eqb-true}
use Rattle.std.proofs.lemmas.List.{take-append-drop}
use Rattle.script_lines.proofs.Tests.{first_of_both, second_of_both}

same_bytes : (xs ys : List ℕ) → bytes_eq xs ys ≡ true → xs ≡ ys
same_bytes [] [] h = refl
same_bytes [] (y ∷ ys) h = absurd cc
same_bytes (x ∷ xs) [] h = absurd cc
same_bytes (x ∷ xs) (y ∷ ys) h =
    let first : x ≡ y = eqb-true x y (first_of_both _ (bytes_eq xs ys) h) in
    let others : xs ≡ ys = same_bytes xs ys (second_of_both _ (bytes_eq xs ys) h) in
    cc

-- a text that begins so is this and what stands behind it
pub begins : (count : ℕ) (name text rest : List ℕ) → bytes_eq (take count text) name ≡ true → rest ≡ drop count text
    → text ≡ name ++ rest
begins count name text rest h behind =
    sym (take-append-drop count text) ∙ (ap (λ front. front ++ drop count text) (same_bytes (take count text) name h)
    ∙ ap (λ back. name ++ back) (sym behind))
