-- The letters that stand for a side and for an order state.
-- (OUCH 4.2, "Enter Order Message", Buy/Sell Indicator, and "Accepted Message", Order State.)
use Rattle.std.specs.Prelude.{◌≡◌, ℕ, Bool, ◌||◌, ◌==◌, [], ◌∷◌, map, codes, refl}
use Rattle.ouch_codec.specs.declared.side.Side.{Side}
use Rattle.ouch_codec.specs.declared.side.Side.TheVariants.{Buy, Sell, SellShort, SellShortExempt}
use Rattle.ouch_codec.specs.declared.order_state.OrderState.{OrderState}
use Rattle.ouch_codec.specs.declared.order_state.OrderState.TheVariants.{Live, Dead}

abbrev pub side_letter : Side → ℕ
side_letter Buy = 66
side_letter Sell = 83
side_letter SellShort = 84
side_letter SellShortExempt = 69

-- as ASCII has them
side_letters : map side_letter (Buy ∷ Sell ∷ SellShort ∷ SellShortExempt ∷ []) ≡ codes "BSTE"
side_letters = refl

abbrev pub is_side : ℕ → Bool
is_side byte = byte == 66 || (byte == 83 || (byte == 84 || byte == 69))

abbrev pub order_state_letter : OrderState → ℕ
order_state_letter Live = 76
order_state_letter Dead = 68

-- as ASCII has them
order_state_letters : map order_state_letter (Live ∷ Dead ∷ []) ≡ codes "LD"
order_state_letters = refl

abbrev pub is_order_state : ℕ → Bool
is_order_state byte = byte == 76 || byte == 68
