-- The sum of bytes, a word at a time.
use Rattle.std.proofs.Common.{◌≡◌, ◌≤◌, ◌<◌, ◌+◌, ◌*◌, ◌%◌, ◌^◌, ℕ, zero, suc, List, [], ◌∷◌, ◌++◌, length, drop, take}
use Rattle.std.proofs.Common.{refl, sym, ap, ◌∙◌, arith, append-nil, append_assoc, length-append, length-drop}
use Rattle.std.proofs.lemmas.List.{length-take-le, take_all}
use Rattle.std.specs.Int.{w64, from_be_bytes}
use Rattle.journal_file.specs.Sum.{IsRunning, basis, mixed, sum_by_looks, sum_from, sum_of}

-- as many looks as there are bytes are enough
enough : (looks more sum : ℕ) (bytes : List ℕ) → length bytes ≤ looks → length bytes ≤ more
    → sum_by_looks looks sum bytes ≡ sum_by_looks more sum bytes
enough zero zero sum bytes a b = refl
enough zero (suc more) sum [] a b = refl
enough zero (suc more) sum (x ∷ bytes) a b = absurd (omega (arith, a))
enough (suc looks) zero sum [] a b = refl
enough (suc looks) zero sum (x ∷ bytes) a b = absurd (omega (arith, b))
enough (suc looks) (suc more) sum [] a b = refl
enough (suc looks) (suc more) sum (x ∷ bytes) a b =
    let left = length-drop 8 (x ∷ bytes) in
    enough looks more (mixed sum (from_be_bytes w64 (x ∷ bytes))) (drop 8 (x ∷ bytes)) (omega (arith, left, a))
    (omega (arith, left, b))

-- a sum has 64 bits
small-from : (looks sum : ℕ) (bytes : List ℕ) → sum < 2 ^ 64 → sum_by_looks looks sum bytes < 2 ^ 64
small-from zero sum bytes few = few
small-from (suc looks) sum [] few = few
small-from (suc looks) sum (b ∷ bytes) few =
    small-from looks (mixed sum (from_be_bytes w64 (b ∷ bytes))) (drop 8 (b ∷ bytes)) (omega arith)

pub small-sum : (bytes : List ℕ) → sum_of bytes < 2 ^ 64
small-sum bytes = small-from (length bytes) basis bytes (omega arith)

-- a word more, where there are bytes
pub word-more : (sum : ℕ) (bytes : List ℕ) → 1 ≤ length bytes
    → sum_from sum bytes ≡ sum_from (mixed sum (from_be_bytes w64 bytes)) (drop 8 bytes)
word-more sum [] some = absurd (omega (arith, some))
word-more sum (b ∷ bytes) some =
    let left = length-drop 8 (b ∷ bytes) in
    enough (length bytes) (length (drop 8 (b ∷ bytes))) (mixed sum (from_be_bytes w64 (b ∷ bytes))) (drop 8 (b ∷ bytes))
    (omega (arith, left)) (omega arith)

none-left : (n : ℕ) (bytes : List ℕ) → length bytes ≤ n → drop n bytes ≡ []
none-left zero [] few = refl
none-left (suc n) [] few = refl
none-left zero (b ∷ bytes) few = absurd (omega (arith, few))
none-left (suc n) (b ∷ bytes) few = none-left n bytes (omega (arith, few))

-- the last word
pub last-word : (sum : ℕ) (bytes : List ℕ) → 1 ≤ length bytes → length bytes ≤ 8
    → sum_from sum bytes ≡ mixed sum (from_be_bytes w64 bytes)
last-word sum bytes some few =
    word-more sum bytes some ∙ ap (sum_from (mixed sum (from_be_bytes w64 bytes))) (none-left 8 bytes few)

-- ---- whole words, and what stands behind them

-- the sum of whole words goes on with what stands behind
pub words-first : (n sum : ℕ) (whole behind : List ℕ) → length whole ≡ n * 8
    → sum_from sum (whole ++ behind) ≡ sum_from (sum_from sum whole) behind
words-first zero sum [] behind is = refl
words-first zero sum (x ∷ whole) behind is = absurd (omega (arith, is))
words-first (suc n) sum [] behind is = absurd (omega (arith, is))
words-first (suc n) sum (a ∷ []) behind is = absurd (omega (arith, is))
words-first (suc n) sum (a ∷ b ∷ []) behind is = absurd (omega (arith, is))
words-first (suc n) sum (a ∷ b ∷ c ∷ []) behind is = absurd (omega (arith, is))
words-first (suc n) sum (a ∷ b ∷ c ∷ d ∷ []) behind is = absurd (omega (arith, is))
words-first (suc n) sum (a ∷ b ∷ c ∷ d ∷ e ∷ []) behind is = absurd (omega (arith, is))
words-first (suc n) sum (a ∷ b ∷ c ∷ d ∷ e ∷ f ∷ []) behind is = absurd (omega (arith, is))
words-first (suc n) sum (a ∷ b ∷ c ∷ d ∷ e ∷ f ∷ g ∷ []) behind is = absurd (omega (arith, is))
words-first (suc n) sum (a ∷ b ∷ c ∷ d ∷ e ∷ f ∷ g ∷ h ∷ whole) behind is =
    let word : List ℕ = a ∷ b ∷ c ∷ d ∷ e ∷ f ∷ g ∷ h ∷ whole in
    word-more sum (word ++ behind) (omega arith)
    ∙ words-first n (mixed sum (from_be_bytes w64 word)) whole behind (omega (arith, is))
    ∙ ap (λ m. sum_from m behind) (sym (word-more sum word (omega arith)))

-- bytes that don't fill the last word
pub not-filled : (bytes piece word after : List ℕ) (sum size : ℕ) → (r : IsRunning bytes sum word size)
    → size % 8 + length piece < 8 → length after ≡ length word
    → take (size % 8 + length piece) after ≡ take (size % 8) word ++ piece
    → IsRunning (bytes ++ piece) sum after (size + length piece)
not-filled bytes piece word after sum size r few same filled =
    let rest : (size + length piece) % 8 ≡ size % 8 + length piece = omega (arith, few) in
    record {
      whole = r.whole;
      words = r.words;
      count = r.count;
      parts = ap (λ (l : List ℕ). l ++ piece) r.parts ∙ append_assoc r.whole (take (size % 8) word) piece
          ∙ ap (λ (l : List ℕ). r.whole ++ l) (sym filled) ∙ ap (λ n. r.whole ++ take n after) (sym rest);
      summed = r.summed;
      sized = ap (λ n. n + length piece) r.sized ∙ sym (length-append bytes piece);
      room = same ∙ r.room;
    }

-- and bytes that do
pub filled-up : (bytes piece word after : List ℕ) (sum size : ℕ) → (r : IsRunning bytes sum word size)
    → size % 8 + length piece ≡ 8 → length after ≡ length word
    → take (size % 8 + length piece) after ≡ take (size % 8) word ++ piece
    → IsRunning (bytes ++ piece) (mixed sum (from_be_bytes w64 after)) after (size + length piece)
filled-up bytes piece word after sum size r all same filled =
    let long : length after ≡ 8 = same ∙ r.room in
    let none : (size + length piece) % 8 ≡ 0 = omega (arith, all) in
    let whole-word : after ≡ take (size % 8) word ++ piece =
    sym (take_all 8 after (omega (arith, long))) ∙ ap (λ n. take n after) (sym all) ∙ filled in
    record {
      whole = r.whole ++ after;
      words = r.words + 1;
      count = length-append r.whole after ∙ omega (arith, r.count, long);
      parts = ap (λ (l : List ℕ). l ++ piece) r.parts ∙ append_assoc r.whole (take (size % 8) word) piece
          ∙ ap (λ (l : List ℕ). r.whole ++ l) (sym whole-word) ∙ sym (append-nil (r.whole ++ after))
          ∙ ap (λ n. (r.whole ++ after) ++ take n after) (sym none);
      summed = ap (λ n. mixed n (from_be_bytes w64 after)) r.summed
          ∙ sym (last-word (sum_from basis r.whole) after (omega (arith, long)) (omega (arith, long)))
          ∙ sym (words-first r.words basis r.whole after r.count);
      sized = ap (λ n. n + length piece) r.sized ∙ sym (length-append bytes piece);
      room = long;
    }

-- the sum of all
pub running-whole : (bytes word : List ℕ) (sum size : ℕ) → IsRunning bytes sum word size → size % 8 ≡ 0
    → sum ≡ sum_of bytes
running-whole bytes word sum size r none =
    r.summed ∙ ap (sum_from basis) (sym (append-nil r.whole)) ∙ ap (λ n. sum_from basis (r.whole ++ take n word)) (sym none)
    ∙ ap (sum_from basis) (sym r.parts)

pub running-sum : (bytes word : List ℕ) (sum size : ℕ) → IsRunning bytes sum word size → 1 ≤ size % 8
    → mixed sum (from_be_bytes w64 (take (size % 8) word)) ≡ sum_of bytes
running-sum bytes word sum size r some =
    let few : length (take (size % 8) word) ≡ size % 8 = length-take-le (size % 8) word (omega (arith, r.room)) in
    ap (λ n. mixed n (from_be_bytes w64 (take (size % 8) word))) r.summed
    ∙ sym (last-word (sum_from basis r.whole) (take (size % 8) word) (omega (arith, few, some)) (omega (arith, few)))
    ∙ sym (words-first r.words basis r.whole (take (size % 8) word) r.count)
    ∙ ap (sum_from basis) (sym r.parts)
