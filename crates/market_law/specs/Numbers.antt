-- Numbers that fit into the fields of a message.
use Rattle.std.proofs.Common.{◌≡◌, ℕ, suc, ◌<◌, ◌≤◌, ◌-◌, ◌^◌, true, arith}
use Rattle.std.proofs.lemmas.Bool.Decides.{nat_tests}
use Rattle.std.specs.Prelude.{nat_lt}

-- what an order may have fits into four bytes
pub shares-fit : (shares : ℕ) → shares ≤ 999_999 → shares < 2 ^ 32
shares-fit shares most = omega (arith, most)

pub none-fit : 0 < 2 ^ 32
none-fit = omega arith

pub less-fit : (shares off : ℕ) → shares < 2 ^ 32 → shares - off < 2 ^ 32
less-fit shares off below = omega (arith, below)

pub less-than-most : (shares off : ℕ) → shares ≤ 999_999 → shares - off ≤ 999_999
less-than-most shares off most = omega (arith, most)

pub some-shares : (shares : ℕ) → 1 ≤ suc shares
some-shares shares = omega arith

pub no-time-fits : 0 < 2 ^ 64
no-time-fits = omega arith

pub is-less : (m n : ℕ) → nat_lt m n ≡ true → m < n
is-less m n e = grind (arith, nat_tests)
