-- A stamp is 21 bytes, and none of them is SOH.
use Rattle.std.proofs.Common.{◌≡◌, ℕ, true, length, refl, arith}
use Rattle.std.specs.List.{list_all}
use Rattle.std.proofs.lemmas.Bool.Decides.{nat_tests}
use Rattle.fix_stamp.specs.Stamp.{stamp_text, is_value_byte, last_digit}

digit_inside : (n : ℕ) → is_value_byte (last_digit n) ≡ true
digit_inside n = grind (arith, nat_tests)

pub length-stamp_text : (ms : ℕ) → length (stamp_text ms) ≡ 21
unfolding stamp_text
length-stamp_text ms = refl

pub stamp_text-inside : (ms : ℕ) → list_all is_value_byte (stamp_text ms) ≡ true
unfolding stamp_text
stamp_text-inside ms = simp digit_inside
