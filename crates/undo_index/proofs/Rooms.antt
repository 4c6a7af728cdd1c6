-- Room in the list, for a change of it, and in its index.
use Rattle.std.proofs.Common.{◌≡◌, ◌≤◌, ℕ, Bool, true, false, refl, sym, arith, leb-true, true≢false}
use Rattle.std.specs.Prelude.{◌&&◌, nat_le}
use Rattle.std.proofs.lemmas.Bool.{and_parts}
use Rattle.std.proofs.lemmas.Bool.Decides.{nat_tests}
use Rattle.undo_index.specs.Counts.{one_if, room_of_count}

within : (m n : ℕ) → m ≤ n → nat_le m n ≡ true
within m n few = grind (arith, nat_tests)

both : (p q : Bool) → p ≡ true → q ≡ true → (p && q) ≡ true
both true q e f = f
both false q e f = e

one-for : (p : Bool) → p ≡ true → 1 ≤ one_if p
one-for true e = omega arith
one-for false e = absurd (true≢false (sym e))

one-of : (p : Bool) → 1 ≤ one_if p → p ≡ true
one-of true h = refl
one-of false h = absurd (omega (arith, h))

pub room-for : (a b c : ℕ) → 1 ≤ a → 1 ≤ b → 1 ≤ c → 1 ≤ room_of_count a b c
room-for a b c x y z =
    one-for (nat_le 1 a && (nat_le 1 b && nat_le 1 c))
    (both (nat_le 1 a) (nat_le 1 b && nat_le 1 c) (within 1 a x)
    (both (nat_le 1 b) (nat_le 1 c) (within 1 b y) (within 1 c z)))

pub room-in : (a b c : ℕ) → 1 ≤ room_of_count a b c → (1 ≤ a) × (1 ≤ b) × (1 ≤ c)
room-in a b c h =
    let parts = and_parts (nat_le 1 a) (nat_le 1 b && nat_le 1 c) (one-of (nat_le 1 a && (nat_le 1 b && nat_le 1 c)) h)
    in
    let rest = and_parts (nat_le 1 b) (nat_le 1 c) parts.1 in
    (leb-true 1 a parts.0, leb-true 1 b rest.0, leb-true 1 c rest.1)
