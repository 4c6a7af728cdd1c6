-- Digits that are read with no limit but the integer's.
use Rattle.std.proofs.Common.{◌≡◌, ℕ, ◌+◌, ◌-◌, ◌*◌, ◌^◌, ◌<◌, ◌≤◌, List, length, get_or, take, ap, ◌∙◌, arith, add-one}
use Rattle.std.proofs.Common.{refl}
use Rattle.std.proofs.Math.Nat.{pow-suc, pow-le-pow_right, mul-le-mul_left}
use Rattle.std.proofs.lemmas.List.{take_all}
use Rattle.wire_bytes.specs.Digits.{number_of}
use Rattle.wire_bytes.proofs.Numbers.{number_of_more, number_of-take-le}

-- one more digit
pub exact_more : (start number next i : ℕ) (ds : List ℕ) → i < length ds
    → number ≡ start * 10 ^ i + number_of (take i ds) → next ≡ number * 10 + (get_or ds i 0 - 48)
    → next ≡ start * 10 ^ (i + 1) + number_of (take (i + 1) ds)
exact_more start number next i ds lt e f =
    let power : 10 ^ (i + 1) ≡ 10 ^ i * 10 = ap (λ n. 10 ^ n) (add-one i) ∙ pow-suc 10 i in
    rw power (omega (arith, number_of_more ds i lt))

-- the digits so far make no more than all of them
pub exact-le : (start i : ℕ) (ds : List ℕ) → i ≤ length ds
    → start * 10 ^ i + number_of (take i ds) ≤ start * 10 ^ length ds + number_of ds
exact-le start i ds le =
    let some : 1 ≤ 10 = omega arith in
    omega (arith, number_of-take-le ds i, mul-le-mul_left start (pow-le-pow_right {n = 10} some le))

pub exact_whole : (start number i : ℕ) (ds : List ℕ) → length ds ≤ i → i ≤ length ds
    → number ≡ start * 10 ^ i + number_of (take i ds) → number ≡ start * 10 ^ length ds + number_of ds
exact_whole start number i ds ge le e =
    let same : i ≡ length ds = omega arith in
    e ∙ rw (same, take_all (length ds) ds (omega arith)) refl

-- digits in front are no more than all, and a number is no more than it is with zeros behind
pub front-le : (start a v q : ℕ) → 1 ≤ a → 1 ≤ q → start ≤ (start * a + v) * q
front-le start a v q one two =
    omega (arith, mul-le-mul_left start one, mul-le-mul_left (start * a + v) two)

pub zeros-le : (n q : ℕ) → 1 ≤ q → n ≤ n * q
zeros-le n q one = omega (arith, mul-le-mul_left n one)
