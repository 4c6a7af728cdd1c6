-- Two lists of 14 bytes with the same first eight, and the same last eight.
use Rattle.std.proofs.Common.{◌≡◌, ℕ, Bool, true, false, nat_eq, bytes_eq, List, length, ◌++◌, take, drop, arith, refl}
use Rattle.std.proofs.Common.{sym, ap, subst, ◌∙◌, eqb-true, length-drop}
use Rattle.std.specs.Int.{from_le_bytes, to_le_bytes, w64}
use Rattle.std.specs.Cmp.Lexicographic.{bytes_decides}
use Rattle.std.proofs.lemmas.List.{take-append-drop, drop-drop, take_all}
use Rattle.std.proofs.lemmas.Bool.Decides.{nat_tests}

nat_eq-self : (n : ℕ) → nat_eq n n ≡ true
nat_eq-self n = grind (arith, nat_tests)

abbrev last_eight : List ℕ → List ℕ
last_eight xs = take 8 (drop 6 xs)

all-behind : (xs : List ℕ) → length xs ≡ 14 → last_eight xs ≡ drop 6 xs
all-behind xs long = take_all 8 (drop 6 xs) (omega (arith, length-drop 6 xs))

same-list : (xs ys : List ℕ) → length xs ≡ 14 → length ys ≡ 14 → take 8 xs ≡ take 8 ys → last_eight xs ≡ last_eight ys
    → xs ≡ ys
same-list xs ys long long_other front back =
    let from_seventh : drop 6 xs ≡ drop 6 ys = sym (all-behind xs long) ∙ back ∙ all-behind ys long_other in
    let behind : drop 8 xs ≡ drop 8 ys = sym (drop-drop 2 6 xs) ∙ ap (λ (t : List ℕ). drop 2 t) from_seventh
    ∙ drop-drop 2 6 ys in
    sym (take-append-drop 8 xs) ∙ ap (λ (t : List ℕ). t ++ drop 8 xs) front ∙ ap (λ (t : List ℕ). take 8 ys ++ t) behind
    ∙ take-append-drop 8 ys

same-truth : (a b : Bool) → (a ≡ true → b ≡ true) → (b ≡ true → a ≡ true) → a ≡ b
same-truth true b to from = sym (to refl)
same-truth false true to from = from refl
same-truth false false to from = refl

-- m and n are the numbers of the last eight bytes
pub same-bytes : (xs ys : List ℕ) (m n : ℕ) → length xs ≡ 14 → length ys ≡ 14 → take 8 xs ≡ take 8 ys
    → m ≡ from_le_bytes w64 (take 8 (drop 6 xs)) → to_le_bytes w64 m ≡ take 8 (drop 6 xs)
    → n ≡ from_le_bytes w64 (take 8 (drop 6 ys)) → to_le_bytes w64 n ≡ take 8 (drop 6 ys) → nat_eq m n ≡ bytes_eq xs ys
same-bytes xs ys m n long long_other front reads writes reads_other writes_other =
    same-truth (nat_eq m n) (bytes_eq xs ys)
    (λ e. (bytes_decides xs ys).1 (same-list xs ys long long_other front
    (sym writes ∙ ap (λ k. to_le_bytes w64 k) (eqb-true m n e) ∙ writes_other)))
    (λ e. subst (λ k. nat_eq m k ≡ true) (reads
    ∙ ap (λ (t : List ℕ). from_le_bytes w64 (last_eight t)) ((bytes_decides xs ys).0 e) ∙ sym reads_other)
    (nat_eq-self m))
