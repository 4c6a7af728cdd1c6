-- Lists made for each client, one client more.
use Rattle.std.proofs.Common.{◌≡◌, ℕ, suc, ◌+◌, List, ◌++◌, refl, arith}
use Rattle.gate_audit.specs.Read.{for_clients}

pub for-more : {X : Type 0} (f : ℕ → List X) (n : ℕ) → for_clients f (n + 1) ≡ for_clients f n ++ f (n + 1)
for-more f n =
    let is_next : n + 1 ≡ suc n = omega arith in
    rw is_next refl
