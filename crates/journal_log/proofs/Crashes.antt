-- What calls make of what a crash may leave.
use Rattle.std.proofs.Common.{◌≡◌, ◌<◌, ◌≤◌, inl, inr, ℕ, List, [], ◌++◌, length, take, refl, sym, ap, subst, ◌∙◌}
use Rattle.std.proofs.Common.{arith}
use Rattle.std.proofs.lemmas.Bool.{cases_lt}
use Rattle.std.proofs.lemmas.List.{append-nil, take-append-le, take_all}
use Rattle.journal_log.specs.Crash.{Follows, Only, StandsBefore}
use Rattle.journal_log.specs.Left.{IsLeft}

nothing-behind : (c : List ℕ) → StandsBefore c c
nothing-behind c = record { torn = []; same = sym (append-nil c) }

pub same-follows : (n : ℕ) (all : List ℕ) → Follows StandsBefore (IsLeft n all) (IsLeft n all)
same-follows n all c left = (c, left, nothing-behind c)

pub added-follows : (n : ℕ) (all more new : List ℕ) → new ≡ all ++ more → n ≤ length all
    → Follows StandsBefore (IsLeft n all) (IsLeft n new)
added-follows n all more new is few c (inl whole) = (all, inl refl, record { torn = more; same = whole ∙ is })
added-follows n all more new is few c (inr torn) =
    let front : take n new ≡ take n all = ap (λ (l : List ℕ). take n l) is ∙ take-append-le n all more few in
    let behind : StandsBefore (take n all) c = subst (λ (l : List ℕ). StandsBefore l c) front torn.1 in
    elim (cases_lt n (length all)) [
      | inl lt ↦ (c, inr (lt, behind), nothing-behind c)
      | inr le ↦ (all, inl refl, subst (λ (l : List ℕ). StandsBefore l c) (take_all n all le) behind)
    ]

pub only-all : (n : ℕ) (all : List ℕ) → n ≡ length all → Only all (IsLeft n all)
only-all n all is c (inl whole) = whole
only-all n all is c (inr torn) = absurd (let lt : n < length all = torn.0 in omega (arith, lt, is))

pub fewer-left : (n m : ℕ) (all : List ℕ) → n ≡ length all → (c : List ℕ) → IsLeft n all c → IsLeft m all c
fewer-left n m all is c left = inl (only-all n all is c left)
