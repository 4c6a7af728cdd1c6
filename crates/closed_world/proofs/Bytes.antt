-- What stands in memory is bytes.
use Rattle.std.proofs.Common.{◌≡◌, ◌<◌, ℕ, suc, true, List, [], ◌∷◌, get_or, refl, arith}
use Rattle.std.specs.Prelude.{nat_lt}
use Rattle.std.specs.List.{list_all}
use Rattle.std.proofs.lemmas.Bool.Decides.{nat_tests}
use Rattle.market_law.specs.order_law.ouch_codec.Values.{is_byte}

below-test : (m n : ℕ) → m < n → nat_lt m n ≡ true
below-test m n h = grind (arith, nat_tests)

pub all-bytes : (bytes : List ℕ) → ((i : ℕ) → get_or bytes i 0 < 256) → list_all is_byte bytes ≡ true
all-bytes [] all = refl
all-bytes (b ∷ bytes) all = let first = below-test b 256 (all 0) in let rest = all-bytes bytes (λ i. all (suc i)) in
    rw (first, rest) refl
