-- A letter stands for one side, or one order state.
use Rattle.std.proofs.Common.{◌≡◌, ℕ, true, refl, sym, ap, ◌∙◌, arith}
use Rattle.std.proofs.lemmas.Bool.Decides.{nat_tests}
use Rattle.std.specs.Prelude.{if◌then◌else◌, ◌==◌}
use Rattle.ouch_codec.specs.declared.side.Side.{Side}
use Rattle.ouch_codec.specs.declared.side.Side.TheVariants.{Buy, Sell, SellShort, SellShortExempt}
use Rattle.ouch_codec.specs.declared.order_state.OrderState.{OrderState}
use Rattle.ouch_codec.specs.declared.order_state.OrderState.TheVariants.{Live, Dead}
use Rattle.ouch_codec.specs.Letters.{side_letter, is_side, order_state_letter, is_order_state}

pub is_side-letter : (side : Side) → is_side (side_letter side) ≡ true
is_side-letter Buy = refl
is_side-letter Sell = refl
is_side-letter SellShort = refl
is_side-letter SellShortExempt = refl

-- the side that a letter stands for
abbrev pub side_of_byte : ℕ → Side
side_of_byte byte = if byte == 66 then Buy else if byte == 83 then Sell else if byte == 84 then SellShort
    else SellShortExempt

pub side_of-letter : (side : Side) → side_of_byte (side_letter side) ≡ side
side_of-letter Buy = refl
side_of-letter Sell = refl
side_of-letter SellShort = refl
side_of-letter SellShortExempt = refl

pub side_letter-of : (byte : ℕ) → is_side byte ≡ true → side_letter (side_of_byte byte) ≡ byte
side_letter-of byte known = grind (arith, nat_tests)

pub side_from_letter : (side : Side) (byte : ℕ) → side_letter side ≡ byte → side ≡ side_of_byte byte
side_from_letter side byte e = sym (side_of-letter side) ∙ ap side_of_byte e

pub is_order_state-letter : (state : OrderState) → is_order_state (order_state_letter state) ≡ true
is_order_state-letter Live = refl
is_order_state-letter Dead = refl

-- the order state that a letter stands for
abbrev pub order_state_of : ℕ → OrderState
order_state_of byte = if byte == 76 then Live else Dead

pub order_state_of-letter : (state : OrderState) → order_state_of (order_state_letter state) ≡ state
order_state_of-letter Live = refl
order_state_of-letter Dead = refl

pub order_state_letter-of : (byte : ℕ) → is_order_state byte ≡ true → order_state_letter (order_state_of byte) ≡ byte
order_state_letter-of byte known = grind (arith, nat_tests)

pub order_state_of_letter : (state : OrderState) (byte : ℕ) → order_state_letter state ≡ byte
    → state ≡ order_state_of byte
order_state_of_letter state byte e = sym (order_state_of-letter state) ∙ ap order_state_of e
