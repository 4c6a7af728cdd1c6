-- What was read and stays within integers, by whole reports and by their bodies.
use Rattle.std.proofs.Common.{◌≡◌, ◌≤◌, ◌<◌, ◌+◌, ℕ, Bool, true, false, List, [], ◌∷◌, map, refl, sym}
use Rattle.std.proofs.Common.{subst, arith, eqb-true}
use Rattle.std.specs.Prelude.{◌==◌, nat_le}
use Rattle.std.proofs.lemmas.Bool.{eqb-false}
use Rattle.std.proofs.lemmas.Bool.Decides.{nat_tests}
use Rattle.gate_law.specs.fix_fields.Field.{Message}
use Rattle.order_law.specs.Messages.{body_of}
use Rattle.order_accounts.specs.Held.{IsHeld, StaysHeld}
use Rattle.gate_audit.specs.Read.{AreReadHeld, Opened}
use Rattle.gate_audit.proofs.Bodies.{same-reading}

pub stays-bodily : (order : List ℕ) (rs : List Message) → StaysHeld order rs → StaysHeld order (map body_of rs)
stays-bodily order [] stays = tt
stays-bodily order (r ∷ rs) stays = (
  subst IsHeld
      (sym (same-reading order (r ∷ rs))) stays.0,
  stays-bodily order rs stays.1,
)

pub stays-whole : (order : List ℕ) (rs : List Message) → StaysHeld order (map body_of rs) → StaysHeld order rs
stays-whole order [] stays = tt
stays-whole order (r ∷ rs) stays = (subst IsHeld (same-reading order (r ∷ rs)) stays.0, stays-whole order rs stays.1)

-- what is known of each number up to one is known up to the next
pub known-more : (P : ℕ → Type 0) (n : ℕ) → ((c : ℕ) → 1 ≤ c → c ≤ n → P c) → P (n + 1) → (c : ℕ) → 1 ≤ c → c ≤ n + 1
    → P c
known-more P n earlier next c some most = by_last (c == n + 1) refl
  where
    by_last : (b : Bool) → (c == n + 1) ≡ b → P c
    by_last true is = subst P (sym (eqb-true c (n + 1) is)) next
    by_last false other = (let apart = eqb-false c (n + 1) other in earlier c some (less apart))
      where
        less : (c ≡ n + 1 → ⊥) → c ≤ n
        less apart = by_le (nat_le c n) refl
          where
            by_le : (b : Bool) → nat_le c n ≡ b → c ≤ n
            by_le true is = grind (arith, nat_tests)
            by_le false past = (let above : n < c = grind (arith, nat_tests) in let it : c ≡ n + 1 =
                omega (arith, above, most) in absurd (apart it))

pub each-held : (xs ys : List Message) → ((order : List ℕ) → StaysHeld order xs → StaysHeld order ys) → (os : List Opened)
    → AreReadHeld xs os → AreReadHeld ys os
each-held xs ys same [] held = tt
each-held xs ys same (o ∷ os) held = (same o.order held.0, each-held xs ys same os held.1)
