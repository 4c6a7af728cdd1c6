-- How many tokens replaces of each order were given: after one token more.
use Rattle.std.proofs.Common.{◌≡◌, ℕ, ◌+◌, ◌<◌, ◌^◌, Bool, true, false, List, [], ◌∷◌, ◌++◌, length, refl, sym, ap, ◌∙◌}
use Rattle.std.proofs.Common.{arith, decimal, bytes_eq, eq-eqb, eqb-true}
use Rattle.std.specs.Prelude.{◌&&◌, nat_eq}
use Rattle.std.specs.List.{count_by}
use Rattle.std.proofs.lemmas.List.Sums.{count_by-le-length}
use Rattle.undo_index.specs.declared.number_count.NumberCount.{NumberCount}
use Rattle.undo_index.specs.Counts.{counted, one_if}
use Rattle.order_machine.proofs.Lists.{count-push}
use Rattle.order_machine.proofs.Texts.{decimal-same, eq-other, eq-true}
use Rattle.order_machine.specs.Table.{GivenToken, is_replacement_of}
use Rattle.order_table.specs.Replaces.{AreReplaces}

number-test : (m n : ℕ) → m < 2 ^ 64 → n < 2 ^ 64 → nat_eq m n ≡ bytes_eq (decimal n) (decimal m)
number-test m n m_small n_small = by_test (nat_eq m n) refl
  where
    by_test : (b : Bool) → nat_eq m n ≡ b → b ≡ bytes_eq (decimal n) (decimal m)
    by_test true e = sym (eq-true (decimal n) (decimal m) (ap decimal (sym (eqb-true m n e))))
    by_test false e = sym (eq-other (decimal n) (decimal m)
        (λ same. (let alike : m ≡ n = sym (decimal-same n m (omega arith) (omega arith) same) in
        let on : nat_eq m n ≡ true = eq-eqb m n alike in let x : true ≡ false = sym on ∙ e in cc)))

pub replaces-pushed : (counts new : List NumberCount) (tokens : List GivenToken) (t : GivenToken) (order_id : ℕ)
    (is_replacement : Bool) → AreReplaces counts tokens
    → order_id < 2 ^ 64 → t.order ≡ decimal order_id → t.is_replacement ≡ is_replacement
    → ((other : ℕ) → counted other new ≡ counted other counts + one_if (nat_eq other order_id && is_replacement))
    → AreReplaces new (tokens ++ t ∷ [])
replaces-pushed counts new tokens t order_id is_replacement are order_small of_order same_kind now = λ number small.
    let test = is_replacement_of (decimal number) in
    let own : test t ≡ (nat_eq number order_id && is_replacement) =
    ap (λ (o : List ℕ). bytes_eq o (decimal number) && t.is_replacement) of_order
    ∙ ap (λ (b : Bool). b && t.is_replacement) (sym (number-test number order_id small order_small))
    ∙ ap (λ (b : Bool). nat_eq number order_id && b) same_kind in
    now number
    ∙ ap (λ k. k + one_if (nat_eq number order_id && is_replacement)) (are number small)
    ∙ ap (λ (b : Bool). count_by test tokens + one_if b) (sym own)
    ∙ sym (count-push test tokens t)

-- a count has room for one more where the list has
pub replaces-fit : (counts : List NumberCount) (tokens more : List GivenToken) (t : GivenToken) (order_id : ℕ)
    → AreReplaces counts tokens → order_id < 2 ^ 64
    → more ≡ tokens ++ t ∷ [] → length more < 2 ^ 64 → counted order_id counts + 1 < 2 ^ 64
replaces-fit counts tokens more t order_id are small pushed few =
    let same = are order_id small in
    let most = count_by-le-length (is_replacement_of (decimal order_id)) tokens in
    let longer : length more ≡ length tokens + 1 = ap (λ (ts : List GivenToken). length ts) pushed
    ∙ length-push tokens t in
    omega (arith, same, most, longer, few)
  where
    length-push : (ts : List GivenToken) (x : GivenToken) → length (ts ++ x ∷ []) ≡ length ts + 1
    length-push [] x = refl
    length-push (y ∷ ts) x = let rest = length-push ts x in omega (arith, rest)

-- the same lists
pub replaces-same : {counts new : List NumberCount} {tokens ts : List GivenToken} → new ≡ counts → ts ≡ tokens
    → AreReplaces counts tokens → AreReplaces new ts
replaces-same counts tokens are = λ number small.
    ap (λ (cs : List NumberCount). counted number cs) counts
    ∙ are number small
    ∙ ap (λ (ts : List GivenToken). count_by (is_replacement_of (decimal number)) ts) (sym tokens)

-- no tokens
pub replaces-none : {counts : List NumberCount} {tokens : List GivenToken} → counts ≡ [] → tokens ≡ []
    → AreReplaces counts tokens
replaces-none counts tokens = replaces-same counts tokens (λ number small. refl)
