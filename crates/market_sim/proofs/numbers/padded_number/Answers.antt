use Rattle.std.proofs.Common.{◌≡◌, ◌≤◌, ◌-◌, ◌++◌, ℕ, List, [], length, take, drop, replicate, ap, ◌∙◌, arith, decimal}
use Rattle.std.proofs.lemmas.List.{take-replicate, drop-replicate, append-nil}
use borrow.Rule.Slice.PartMut.{put_mid}
use Rattle.market_sim.proofs.numbers.padded_number.Goals as goal

abbrev spaces : ℕ → List ℕ
spaces n = replicate n 32

shorter : (n a b : ℕ) → drop a (drop b (spaces n)) ≡ spaces (n - b - a)
shorter n a b = ap (λ (t : List ℕ). drop a t) (drop-replicate {X = ℕ} b n 32) ∙ drop-replicate {X = ℕ} a (n - b) 32

padding : (n : ℕ) (text copy : List ℕ) → length text ≤ n → copy ≡ text
    → put_mid (n - length text) (n - (n - length text)) (spaces n) copy ≡ (replicate (n - length text) 32 ++ text)
padding n text copy le e =
    let front : take (n - length text) (spaces n) ≡ spaces (n - length text) =
    take-replicate {X = ℕ} (n - length text) n 32 (omega arith) in
    let none : n - (n - length text) - (n - (n - length text)) ≡ 0 = omega arith in
    let behind : drop (n - (n - length text)) (drop (n - length text) (spaces n)) ≡ [] =
    shorter n (n - (n - length text)) (n - length text) ∙ ap spaces none in
    joined (take (n - length text) (spaces n)) (spaces (n - length text)) copy text
    (drop (n - (n - length text)) (drop (n - length text) (spaces n))) front e behind
  where
    joined : (a b x y z : List ℕ) → a ≡ b → x ≡ y → z ≡ [] → a ++ (x ++ z) ≡ b ++ y
    joined a b x y z p q r = rw (p, q, r) (ap (λ (t : List ℕ). b ++ t) (append-nil y))

pub returns : goal.returns
returns c =
    let text : c.as_bytes-digits.result.now ≡ decimal c.args.number = c.as_bytes-digits.ensures.value
    ∙ c.format.ensures.text in
    let short : length c.as_bytes-digits.result.now ≤ 20 = rw c.as_bytes-digits.ensures.value c.format.ensures.fits in
    padding 20 c.as_bytes-digits.result.now c.copy_from_slice.new.self short c.copy_from_slice.ensures.after
    ∙ ap (λ (t : List ℕ). replicate (20 - length t) 32 ++ t) text
