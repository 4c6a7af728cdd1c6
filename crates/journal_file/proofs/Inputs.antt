-- What holds of all that an input had.
use Rattle.std.proofs.Common.{ℕ, List, ◌++◌, Option, Some, None, IfSome, inl, inr, sym, subst}
use Rattle.std.proofs.KnownBytes.{Consumes-whole}
use Rattle.std.specs.Prelude.{◌⊎◌}
use Rattle.std.specs.Io.KnownBytes.{IsAtEnd}
use Rattle.journal_file.specs.Inputs.{IsJudged, IsReadTo}

pub all-read : (known later : Option (List ℕ)) (P : List ℕ → Type 0) → IsReadTo known later P → IfSome known P
all-read known later P is = Consumes-whole known later is.0 P is.1 is.2 is.3

pub all-judged : (known later : Option (List ℕ)) (P : List ℕ → Type 0) → IsJudged known later P → IfSome known P
all-judged None later P is = tt
all-judged (Some xs) None P is = absurd is.1
all-judged (Some xs) (Some ys) P is = by_rest is.2
  where
    by_rest : (((more : List ℕ) → P (is.0 ++ more)) ⊎ (IsAtEnd (Some ys) × P is.0)) → P xs
    by_rest (inl ever) = subst P (sym is.1) (ever ys)
    by_rest (inr here) = Consumes-whole (Some xs) (Some ys) is.0 P is.1 here.0 here.1

-- what follows from it holds, too
pub weaker : (known later : Option (List ℕ)) (P Q : List ℕ → Type 0) → ((file : List ℕ) → P file → Q file)
    → IsJudged known later P → IsJudged known later Q
weaker known later P Q f is = (is.0, is.1, by_rest is.2)
  where
    by_rest : (((more : List ℕ) → P (is.0 ++ more)) ⊎ (IsAtEnd later × P is.0))
        → ((more : List ℕ) → Q (is.0 ++ more)) ⊎ (IsAtEnd later × Q is.0)
    by_rest (inl ever) = inl (λ more. f (is.0 ++ more) (ever more))
    by_rest (inr here) = inr (here.0, f is.0 here.1)
