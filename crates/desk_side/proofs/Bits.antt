-- The bit of a place.
use Rattle.std.proofs.Common.{◌≡◌, ℕ, ◌<◌, ◌*◌, ◌^◌, ◌%◌}
use Rattle.std.proofs.lemmas.Nat.{one_shl}

pub one_bit : (place : ℕ) → place < 128 → (1 * 2 ^ place) % 2 ^ 128 ≡ 2 ^ place
one_bit place inside = one_shl place 128 inside
