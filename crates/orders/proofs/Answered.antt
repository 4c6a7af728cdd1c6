-- Cancel Orders that are answered.
use Rattle.std.proofs.Common.{◌≡◌, ℕ, suc, Bool, true, false, List, [], ◌∷◌, length, filter, refl, sym, ◌∙◌, arith}
use Rattle.std.proofs.lemmas.Bool.Decides.{nat_tests}
use Rattle.std.specs.Prelude.{◌&&◌, ◌==◌, not, None, Some, if◌then◌else◌}
use Rattle.std.specs.List.{list_all}
use Rattle.order_machine.specs.History.{Entry}
use Rattle.order_machine.specs.OrderRecord.{is_empty, with_tokens}

-- all are answered where none is left
pub all-answered : (test : List ℕ → Bool) (tokens : List (List ℕ))
    → list_all test tokens ≡ is_empty (filter (λ token. not (test token)) tokens)
all-answered test [] = refl
all-answered test (t ∷ ts) = by_test (test t) (all-answered test ts)
  where
    by_test : (b : Bool) → list_all test ts ≡ is_empty (filter (λ token. not (test token)) ts)
        → (b && list_all test ts) ≡ is_empty (if not b then t ∷ filter (λ token. not (test token)) ts else filter
        (λ token. not (test token)) ts)
    by_test true e = e
    by_test false e = refl

not-zero : (n : ℕ) → (suc n == 0) ≡ true → ⊥
not-zero n e = let f : (suc n == 0) ≡ false = grind (arith, nat_tests) in let g : true ≡ false = sym e ∙ f in
    absurd (cc)

pub none-left : (q : Entry) (tokens : List (List ℕ)) → (length tokens == 0) ≡ true → with_tokens q tokens ≡ None
none-left q [] e = refl
none-left q (t ∷ ts) e = absurd (not-zero (length ts) e)

pub some-left : (q : Entry) (tokens : List (List ℕ)) → (length tokens == 0) ≡ false
    → with_tokens q tokens ≡ Some (record { request = q; tokens = tokens })
some-left q [] e = absurd (cc)
some-left q (t ∷ ts) e = refl
