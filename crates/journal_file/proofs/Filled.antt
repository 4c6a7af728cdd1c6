-- A read in place: what stands in front stays, and what was read stands behind it.
use Rattle.std.proofs.Common.{◌≡◌, ◌≤◌, ℕ, ◌+◌, List, ◌++◌, IfOk, length, take, drop, sym, ap, subst, ◌∙◌}
use Rattle.std.proofs.Common.{arith, Bool, true, false, take_all, take-append-drop, length-take-le, length-drop}
use lib.Seq.{take-take}
use Rattle.std.proofs.lemmas.List.{drop_at, drop-take, take_at, take-append-le}
use Rattle.std.specs.Prelude.{Option, Result, Ok, Err, if◌then◌else◌}
use Rattle.std.specs.Io.{ReadsAtMost}
use Rattle.std.specs.Io.KnownBytes.{Consumes, IsAtEnd}
use Rattle.journal_file.specs.Window.{Puts}

pub in-place : {E : Type 0} (a b : Option (List ℕ)) (r : Result ℕ E) (front part rest : List ℕ) (at : ℕ)
    → length front ≡ at → ReadsAtMost r part → IfOk r (λ n. Consumes a b (take n part))
    → IfOk r (λ n. Consumes a b (take n (drop at (front ++ (part ++ rest)))))
in-place a b (Ok n) front part rest at long fits read =
    subst (Consumes a b)
    (sym (ap (take n) (drop_at front (part ++ rest) at long) ∙ take-append-le n part rest fits.0)) read
in-place a b (Err e) front part rest at long fits read = tt

front-of : (at n : ℕ) (all old : List ℕ) → length old ≡ at → at + n ≤ length all → take at all ≡ old
    → take (at + n) all ≡ old ++ take n (drop at all)
front-of at n all old long fits front =
    sym (take-append-drop at (take (at + n) all))
    ∙ ap (λ (t : List ℕ). t ++ drop at (take (at + n) all)) (take-take at (at + n) all (omega arith) ∙ front)
    ∙ ap (λ (t : List ℕ). old ++ t) (drop-take at n all)

-- a piece of n bytes was put behind others
pub puts : (known later : Option (List ℕ)) (old all new : List ℕ) (at n : ℕ) → length old ≡ at → at + n ≤ length all
    → take at all ≡ old → new ≡ take (at + n) all → Consumes known later (take n (drop at all))
    → (n ≡ 0 → IsAtEnd later) → Puts known later old new n
puts known later old all new at n long fits front is consumed end = record {
  piece = take n (drop at all);
  same = is ∙ front-of at n all old long fits front;
  size = length-take-le n (drop at all) (few at n all fits);
  consumed = consumed;
  end = end;
}
  where
    few : (at n : ℕ) (all : List ℕ) → at + n ≤ length all → n ≤ length (drop at all)
    few at n all fits = let left = length-drop at all in omega (arith, left, fits)

-- what was filled up keeps its front
pub filled : (b : Bool) (old new xs : List ℕ) (at n : ℕ) → new ≡ (if b then take n old ++ xs else old)
    → length old ≡ at → at ≤ n → take at new ≡ old
filled true old new xs at n is long few =
    ap (take at) (is ∙ ap (λ (t : List ℕ). t ++ xs) (take_all n old (omega (arith, long, few)))) ∙ take_at old xs at long
filled false old new xs at n is long few = ap (take at) is ∙ take_all at old (omega (arith, long))
