-- Which lines of a stream were given.
use Rattle.std.proofs.Common.{◌≡◌, ℕ, List, [], ◌∷◌, ◌++◌, Option, None, Some, IfSome, option_map, refl, sym, ap, subst}
use Rattle.std.proofs.Common.{◌∙◌, append_assoc, append-nil}
use Rattle.wire_streams.specs.Unread.{GivesLine, lines_of}

-- of a stream of these bytes these lines were given, and these are left
abbrev pub Leaves : Option (List ℕ) → List (List ℕ) → Option (List (List ℕ)) → Type 0
Leaves None given left = Unit {0}
Leaves (Some text) given None = ⊥
Leaves (Some text) given (Some rest) = lines_of text ≡ given ++ rest

pub none-given : (known : Option (List ℕ)) (left : Option (List (List ℕ))) → left ≡ option_map lines_of known
    → Leaves known [] left
none-given known left is = subst (Leaves known []) (sym is) (whole known)
  where
    whole : (k : Option (List ℕ)) → Leaves k [] (option_map lines_of k)
    whole None = tt
    whole (Some text) = refl

pub one-given : (known : Option (List ℕ)) (given : List (List ℕ)) (left later : Option (List (List ℕ))) (line : List ℕ)
    → Leaves known given left → GivesLine left later (Some line) → Leaves known (given ++ line ∷ []) later
one-given None given left later line all gives = tt
one-given (Some text) given None later line all gives = absurd all
one-given (Some text) given (Some lines) None line all gives = absurd gives
one-given (Some text) given (Some lines) (Some rest) line all gives = all ∙ ap (λ l. given ++ l) gives
    ∙ sym (append_assoc given (line ∷ []) rest)

pub all-given : (known : Option (List ℕ)) (given : List (List ℕ)) (left later : Option (List (List ℕ)))
    → Leaves known given left → GivesLine left later None → IfSome known (λ text. given ≡ lines_of text)
all-given None given left later all gives = tt
all-given (Some text) given None later all gives = absurd all
all-given (Some text) given (Some lines) None all gives = absurd gives
all-given (Some text) given (Some lines) (Some rest) all gives =
    sym (all ∙ ap (λ l. given ++ l) gives.0 ∙ append-nil given)

-- what was given are the first lines
pub first-given : (known : Option (List ℕ)) (given : List (List ℕ)) (left : Option (List (List ℕ)))
    → Leaves known given left → IfSome known (λ text. (rest : List (List ℕ)) × (lines_of text ≡ given ++ rest))
first-given None given left all = tt
first-given (Some text) given None all = absurd all
first-given (Some text) given (Some rest) all = (rest, all)
