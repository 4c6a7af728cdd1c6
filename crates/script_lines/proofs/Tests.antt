-- Tests of words, and the facts that they test.
use Rattle.std.proofs.Common.{◌≡◌, ◌↔◌, ℕ, ◌<◌, ◌≤◌, ◌≢◌, Bool, true, false, List, [], ◌∷◌, length, refl, sym, arith}
use Rattle.std.proofs.Common.{Option, Some, None}
use Rattle.std.specs.Prelude.{◌&&◌, nat_lt, nat_le, is_some}
use Rattle.std.specs.Char.{is_ascii_digit}
use Rattle.std.specs.List.{list_all}
use Rattle.std.proofs.lemmas.Bool.Decides.{nat_tests}
use Rattle.std.proofs.Math.Bool.{and-false}
use Rattle.std.specs.Prelude.{MatchOption}
use Rattle.wire_law.specs.Printable.{is_visible}
use Rattle.ouch_codec.specs.declared.side.Side.{Side}
use Rattle.ouch_codec.specs.declared.side.Side.TheVariants as sides
use Rattle.ouch_codec.specs.declared.order_state.OrderState.{OrderState}
use Rattle.ouch_codec.specs.declared.order_state.OrderState.TheVariants as states
use Rattle.ouch_codec.specs.Letters.{is_side, side_letter, is_order_state, order_state_letter}
use Rattle.script_lines.specs.Words.{IsNumberBelow, number_in}
use Rattle.script_lines.specs.Forms.{is_number_from, is_letter_in, fits_forms}

-- tests that hold in the same cases are the same
pub same_test : (a b : Bool) → (a ≡ true → b ≡ true) → (b ≡ true → a ≡ true) → a ≡ b
same_test true b to from = sym (to refl)
same_test false true to from = from refl
same_test false false to from = refl

both : (a b : Bool) → a ≡ true → b ≡ true → (a && b) ≡ true
both true b p q = q
both false b p q = p

pub first_of_both : (a b : Bool) → (a && b) ≡ true → a ≡ true
first_of_both true b h = refl
first_of_both false b h = h

pub second_of_both : (a b : Bool) → (a && b) ≡ true → b ≡ true
second_of_both true b h = h
second_of_both false b h = absurd cc

less : (m n : ℕ) → m < n → nat_lt m n ≡ true
less m n h = grind (arith, nat_tests)

is_less : (m n : ℕ) → nat_lt m n ≡ true → m < n
is_less m n h = grind (arith, nat_tests)

at_most : (m n : ℕ) → m ≤ n → nat_le m n ≡ true
at_most m n h = grind (arith, nat_tests)

is_at_most : (m n : ℕ) → nat_le m n ≡ true → m ≤ n
is_at_most m n h = grind (arith, nat_tests)

number_passes : (least limit : ℕ) (word : List ℕ) → IsNumberBelow limit word → least ≤ number_in word
    → is_number_from least limit word ≡ true
number_passes least limit word h low =
    both _ _ h.0 (both _ _ (less 0 (length word) h.1)
    (both _ _ (at_most least (number_in word) low) (less (number_in word) limit h.2)))

passed_below : (least limit : ℕ) (word : List ℕ) → is_number_from least limit word ≡ true
    → IsNumberBelow limit word × (least ≤ number_in word)
passed_below least limit word h =
    let digits = list_all is_ascii_digit word in
    let some = nat_lt 0 (length word) in
    let low = nat_le least (number_in word) in
    let high = nat_lt (number_in word) limit in
    let behind : (some && (low && high)) ≡ true = second_of_both digits (some && (low && high)) h in
    let last : (low && high) ≡ true = second_of_both some (low && high) behind in (
      (
        first_of_both digits (some && (low && high)) h,
        is_less 0 (length word)
            (first_of_both some (low && high) behind),
        is_less (number_in word) limit (second_of_both low high last),
      ),
      is_at_most least (number_in word) (first_of_both low high last),
    )

-- a number is read just where the word passes
pub number_form : (least limit : ℕ) (word : List ℕ) (b : Bool)
    → (b ≡ true) ↔ (IsNumberBelow limit word × (least ≤ number_in word)) → b ≡ is_number_from least limit word
number_form least limit word b h =
    same_test b (is_number_from least limit word)
    (λ t. let p = h.0 t in number_passes least limit word p.0 p.1)
    (λ t. h.1 (passed_below least limit word t))

-- the same where any number of digits is enough
pub any_number_form : (limit : ℕ) (word : List ℕ) (b : Bool) → (b ≡ true) ↔ IsNumberBelow limit word
    → b ≡ is_number_from 0 limit word
any_number_form limit word b h =
    number_form 0 limit word b ((λ t. (h.0 t, omega arith)), (λ p. h.1 p.0))

-- the test of a symbol
abbrev stock_test : List ℕ → Bool
stock_test word = nat_le 1 (length word) && (nat_le (length word) 8 && list_all is_visible word)

stock_passes : (word : List ℕ) → 1 ≤ length word → length word ≤ 8 → list_all is_visible word ≡ true
    → stock_test word ≡ true
stock_passes word some few visible = both _ _ (at_most 1 (length word) some)
    (both _ _ (at_most (length word) 8 few) visible)

passed_stock : (word : List ℕ) → stock_test word ≡ true
    → (1 ≤ length word) × (length word ≤ 8) × (list_all is_visible word ≡ true)
passed_stock word h =
    let some = nat_le 1 (length word) in
    let few = nat_le (length word) 8 in
    let visible = list_all is_visible word in
    let behind : (few && visible) ≡ true = second_of_both some (few && visible) h in (
      is_at_most 1 (length word) (first_of_both some (few && visible) h),
      is_at_most (length word) 8
          (first_of_both few visible behind),
      second_of_both few visible behind,
    )

-- a symbol is read just where the word passes
pub stock_form : (word : List ℕ) (b : Bool)
    → (b ≡ true) ↔ ((1 ≤ length word) × (length word ≤ 8) × (list_all is_visible word ≡ true)) → b ≡ stock_test word
stock_form word b h =
    same_test b (stock_test word)
    (λ t. let p = h.0 t in stock_passes word p.0 p.1 p.2)
    (λ t. h.1 (passed_stock word t))

-- a word that isn't one letter has none of a set
pub no_letter : (set : ℕ → Bool) (word : List ℕ) → length word ≢ 1 → is_letter_in set word ≡ false
no_letter set [] h = refl
no_letter set (byte ∷ []) h = absurd (h refl)
no_letter set (byte ∷ (other ∷ others)) h = refl

-- one that is has one where the set has it
pub letter_form : (set : ℕ → Bool) (word : List ℕ) (byte : ℕ) (b : Bool) → word ≡ byte ∷ [] → b ≡ set byte
    → b ≡ is_letter_in set word
letter_form set word byte b h e = rw h e

-- a side is found just where the letter is one of the four
pub side_found : (found : Option Side) (byte : ℕ)
    → MatchOption found (is_side byte ≡ false) (λ side. side_letter side ≡ byte) → is_some found ≡ is_side byte
side_found None byte h = sym h
side_found (Some sides.Buy) byte h = rw (← h)
side_found (Some sides.Sell) byte h = rw (← h)
side_found (Some sides.SellShort) byte h = rw (← h)
side_found (Some sides.SellShortExempt) byte h = rw (← h)

-- a state is found just where the letter is one of the two
pub state_found : (found : Option OrderState) (byte : ℕ)
    → MatchOption found (is_order_state byte ≡ false) (λ state. order_state_letter state ≡ byte)
    → is_some found ≡ is_order_state byte
state_found None byte h = sym h
state_found (Some states.Live) byte h = rw (← h)
state_found (Some states.Dead) byte h = rw (← h)

-- a last word is missing or isn't the last
pub no_last_word : (form : List ℕ → Bool) (words : List (List ℕ)) → length words ≢ 1
    → fits_forms (form ∷ []) words ≡ false
no_last_word form [] h = refl
no_last_word form (word ∷ []) h = absurd (h refl)
no_last_word form (word ∷ (other ∷ others)) h = and-false (form word)

-- a word more in front of words that don't fit
pub next_word : (form : List ℕ → Bool) (forms : List (List ℕ → Bool)) (words : List (List ℕ)) (word : List ℕ)
    (others : List (List ℕ)) → words ≡ word ∷ others → fits_forms forms others ≡ false
    → fits_forms (form ∷ forms) words ≡ false
next_word form forms words word others h e = rw h (rw e (and-false (form word)))
