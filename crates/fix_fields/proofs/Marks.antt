-- Marks of bytes, one bit for each.
use Rattle.std.proofs.Common.{◌≡◌, ℕ, zero, suc, ◌+◌, ◌-◌, ◌*◌, ◌/◌, ◌^◌, ◌≤◌, Bool, true, false, List, [], ◌∷◌}
use Rattle.std.proofs.Common.{length, take, drop, map, refl, sym, ap, ◌∙◌, arith, cond}
use lib.Lanes.{mask_l}
use native.Mathlib.Nat.{pow-suc, mul_comm, zero-div, div-one, div-div-eq-div-mul}
use Rattle.std.proofs.lemmas.List.{drop-drop, length-drop, take_all}

first_off : (b : Bool) (n : ℕ) → (cond b 1 0 + 2 * n) / 2 ≡ n
first_off true n = omega arith
first_off false n = omega arith

-- without the first bits they are those of the bytes behind
pub mask_behind : (ms : List Bool) (k : ℕ) → mask_l ms / 2 ^ k ≡ mask_l (drop k ms)
mask_behind [] zero = zero-div (2 ^ 0)
mask_behind [] (suc k) = zero-div (2 ^ suc k)
mask_behind (m ∷ ms) zero = div-one (mask_l (m ∷ ms))
mask_behind (m ∷ ms) (suc k) =
    ap (λ n. mask_l (m ∷ ms) / n) (pow-suc 2 k ∙ mul_comm (2 ^ k) 2)
    ∙ sym (div-div-eq-div-mul (mask_l (m ∷ ms)) 2 (2 ^ k)) ∙ ap (λ n. n / 2 ^ k) (first_off m (mask_l ms))
    ∙ mask_behind ms k

drop-map : (p : ℕ → Bool) (k : ℕ) (xs : List ℕ) → drop k (map p xs) ≡ map p (drop k xs)
drop-map p zero xs = refl
drop-map p (suc k) [] = refl
drop-map p (suc k) (x ∷ xs) = drop-map p k xs

-- of the last bytes of a text
pub last_marks : (p : ℕ → Bool) (text : List ℕ) (size : ℕ) → size ≤ 16 → 16 ≤ length text
    → mask_l (map p (take 16 (drop (length text - 16) text))) / 2 ^ (16 - size)
    ≡ mask_l (map p (drop (length text - size) text))
last_marks p text size few room =
    let last : List ℕ = drop (length text - 16) text in
    let whole : take 16 last ≡ last = take_all 16 last (omega (arith, length-drop (length text - 16) text)) in
    ap (λ (l : List ℕ). mask_l (map p l) / 2 ^ (16 - size)) whole
    ∙ mask_behind (map p last) (16 - size)
    ∙ ap (λ (l : List Bool). mask_l l) (drop-map p (16 - size) last)
    ∙ ap (λ (l : List ℕ). mask_l (map p l)) (drop-drop (16 - size) (length text - 16) text)
    ∙ ap (λ n. mask_l (map p (drop n text))) (omega arith)
