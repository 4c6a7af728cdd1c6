-- Room in a list and in its indexes.
use Rattle.std.proofs.Common.{◌≡◌, ◌≤◌, ℕ, Bool, true, false, refl, sym, arith, leb-true, true≢false}
use Rattle.std.specs.Prelude.{◌&&◌, nat_le}
use Rattle.std.proofs.lemmas.Bool.{and_parts}
use Rattle.std.proofs.lemmas.Bool.Decides.{nat_tests}
use Rattle.order_table.specs.Held.{one_if}
use Rattle.order_table.specs.Rooms.{room_of_order, room_of_token}

within : (m n : ℕ) → m ≤ n → nat_le m n ≡ true
within m n few = grind (arith, nat_tests)

both : (p q : Bool) → p ≡ true → q ≡ true → (p && q) ≡ true
both true q e f = f
both false q e f = e

one-for : (p : Bool) → p ≡ true → 1 ≤ one_if p
one-for true e = omega arith
one-for false e = absurd (true≢false (sym e))

one-of : (p : Bool) → 1 ≤ one_if p → p ≡ true
one-of true h = refl
one-of false h = absurd (omega (arith, h))

pub room-for-token : (a b c : ℕ) → 1 ≤ a → 1 ≤ b → 1 ≤ c → 1 ≤ room_of_token a b c
room-for-token a b c x y z =
    one-for (nat_le 1 a && (nat_le 1 b && nat_le 1 c))
    (both (nat_le 1 a) (nat_le 1 b && nat_le 1 c) (within 1 a x)
    (both (nat_le 1 b) (nat_le 1 c) (within 1 b y) (within 1 c z)))

pub room-in-token : (a b c : ℕ) → 1 ≤ room_of_token a b c → (1 ≤ a) × (1 ≤ b) × (1 ≤ c)
room-in-token a b c h =
    let parts = and_parts (nat_le 1 a) (nat_le 1 b && nat_le 1 c) (one-of (nat_le 1 a && (nat_le 1 b && nat_le 1 c)) h)
    in
    let rest = and_parts (nat_le 1 b) (nat_le 1 c) parts.1 in
    (leb-true 1 a parts.0, leb-true 1 b rest.0, leb-true 1 c rest.1)

pub room-for-order : (a b c : ℕ) → 1 ≤ a → 1 ≤ b → 2 ≤ c → 1 ≤ room_of_order a b c
room-for-order a b c x y z =
    one-for (nat_le 1 a && (nat_le 1 b && nat_le 2 c))
    (both (nat_le 1 a) (nat_le 1 b && nat_le 2 c) (within 1 a x)
    (both (nat_le 1 b) (nat_le 2 c) (within 1 b y) (within 2 c z)))

pub room-in-order : (a b c : ℕ) → 1 ≤ room_of_order a b c → (1 ≤ a) × (1 ≤ b) × (2 ≤ c)
room-in-order a b c h =
    let parts = and_parts (nat_le 1 a) (nat_le 1 b && nat_le 2 c) (one-of (nat_le 1 a && (nat_le 1 b && nat_le 2 c)) h)
    in
    let rest = and_parts (nat_le 1 b) (nat_le 2 c) parts.1 in
    (leb-true 1 a parts.0, leb-true 1 b rest.0, leb-true 2 c rest.1)
