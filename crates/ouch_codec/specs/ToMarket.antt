-- What a message towards the market says, by the offsets of its type. (OUCH 4.2, "Inbound Messages".)
use Rattle.std.specs.Prelude.{◌≡◌, ℕ, List, true, codes, refl}
use Rattle.ouch_codec.specs.Parts.{byte_at, bytes_at, number_at, text_at, lies_at}
use Rattle.ouch_codec.specs.Layouts.{cancel_table, enter_order_table, replace_table}

-- the token of an Enter Order or a Cancel Order, and the existing one of a Replace Order
abbrev pub token : List ℕ → List ℕ
token message = bytes_at 1 14 message

-- of an Enter Order
abbrev pub enter_side : List ℕ → ℕ
enter_side message = byte_at 15 message

-- shares
abbrev pub enter_shares : List ℕ → ℕ
enter_shares message = number_at 16 4 message

-- without its padding
abbrev pub enter_stock : List ℕ → List ℕ
enter_stock message = text_at 20 8 message

-- 1/10,000
abbrev pub enter_price : List ℕ → ℕ
enter_price message = number_at 28 4 message

-- seconds, 99998 for the day
abbrev pub enter_time_in_force : List ℕ → ℕ
enter_time_in_force message = number_at 32 4 message

-- all four bytes
abbrev pub enter_firm : List ℕ → List ℕ
enter_firm message = bytes_at 36 4 message

-- its letter
abbrev pub enter_display : List ℕ → ℕ
enter_display message = byte_at 40 message

-- its letter
abbrev pub enter_capacity : List ℕ → ℕ
enter_capacity message = byte_at 41 message

-- its letter
abbrev pub enter_sweep : List ℕ → ℕ
enter_sweep message = byte_at 42 message

-- shares
abbrev pub enter_minimum : List ℕ → ℕ
enter_minimum message = number_at 43 4 message

-- its letter
abbrev pub enter_cross : List ℕ → ℕ
enter_cross message = byte_at 47 message

-- its letter
abbrev pub enter_customer : List ℕ → ℕ
enter_customer message = byte_at 48 message

-- of a Replace Order
abbrev pub replacement_token : List ℕ → List ℕ
replacement_token message = bytes_at 15 14 message

-- shares
abbrev pub replace_shares : List ℕ → ℕ
replace_shares message = number_at 29 4 message

-- 1/10,000
abbrev pub replace_price : List ℕ → ℕ
replace_price message = number_at 33 4 message

-- seconds, 99998 for the day
abbrev pub replace_time_in_force : List ℕ → ℕ
replace_time_in_force message = number_at 37 4 message

-- its letter
abbrev pub replace_display : List ℕ → ℕ
replace_display message = byte_at 41 message

-- its letter
abbrev pub replace_sweep : List ℕ → ℕ
replace_sweep message = byte_at 42 message

-- shares
abbrev pub replace_minimum : List ℕ → ℕ
replace_minimum message = number_at 43 4 message

-- of a Cancel Order: how many are left
abbrev pub cancel_shares : List ℕ → ℕ
cancel_shares message = number_at 15 4 message

-- the tables have them there
as_laid_out :
    (lies_at (codes "order token") 1 14 enter_order_table ≡ true)
    × (lies_at (codes "order token") 1 14 cancel_table ≡ true)
    × (lies_at (codes "existing order token") 1 14 replace_table ≡ true)
    × (lies_at (codes "buy/sell indicator") 15 1 enter_order_table ≡ true)
    × (lies_at (codes "shares") 16 4 enter_order_table ≡ true)
    × (lies_at (codes "stock") 20 8 enter_order_table ≡ true)
    × (lies_at (codes "price") 28 4 enter_order_table ≡ true)
    × (lies_at (codes "time in force") 32 4 enter_order_table ≡ true)
    × (lies_at (codes "firm") 36 4 enter_order_table ≡ true)
    × (lies_at (codes "display") 40 1 enter_order_table ≡ true)
    × (lies_at (codes "capacity") 41 1 enter_order_table ≡ true)
    × (lies_at (codes "intermarket sweep eligibility") 42 1 enter_order_table ≡ true)
    × (lies_at (codes "minimum quantity") 43 4 enter_order_table ≡ true)
    × (lies_at (codes "cross type") 47 1 enter_order_table ≡ true)
    × (lies_at (codes "customer type") 48 1 enter_order_table ≡ true)
    × (lies_at (codes "replacement order token") 15 14 replace_table ≡ true)
    × (lies_at (codes "shares") 29 4 replace_table ≡ true)
    × (lies_at (codes "price") 33 4 replace_table ≡ true)
    × (lies_at (codes "time in force") 37 4 replace_table ≡ true)
    × (lies_at (codes "display") 41 1 replace_table ≡ true)
    × (lies_at (codes "intermarket sweep eligibility") 42 1 replace_table ≡ true)
    × (lies_at (codes "minimum quantity") 43 4 replace_table ≡ true)
    × (lies_at (codes "shares") 15 4 cancel_table ≡ true)
as_laid_out = (refl, refl, refl, refl, refl, refl, refl, refl, refl, refl, refl, refl, refl, refl, refl, refl, refl, refl, refl, refl, refl, refl, refl)
