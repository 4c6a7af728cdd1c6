-- The fields of FIX messages that are handed on. (FIX 4.4 Volume 6: Username (553), Password (554), NewPassword (925)
-- and RawData (96) aren't among them.)
use Rattle.std.specs.Prelude.{ℕ, Bool, false, ◌==◌, List, [], ◌∷◌}
use Rattle.std.specs.List.{list_any}

abbrev pub exported : List ℕ
exported =
    6 ∷ 11 ∷ 14 ∷ 17 ∷ 31 ∷ 32 ∷ 34 ∷ 35 ∷ 37 ∷ 38 ∷ 39 ∷ 40 ∷ 41 ∷ 44 ∷ 54 ∷ 55 ∷ 58 ∷ 59 ∷ 102 ∷ 103 ∷ 110 ∷ 150
    ∷ 151 ∷ 371 ∷ 372 ∷ 373 ∷ 378 ∷ 380 ∷ 434 ∷ 528 ∷ []

abbrev pub is_exported : ℕ → Bool
is_exported tag = list_any (λ known. known == tag) exported

-- A message of the order level by its type (35): a new order (D), a request (F, G), a report (8), a reject (9, 3, j).
-- (FIX 4.4 Volume 6, "MsgType".)
abbrev pub order_letters : List ℕ
order_letters = 68 ∷ 70 ∷ 71 ∷ 56 ∷ 57 ∷ 51 ∷ 106 ∷ []

abbrev pub is_of_orders : List ℕ → Bool
is_of_orders [] = false
is_of_orders (letter ∷ []) = list_any (λ known. known == letter) order_letters
is_of_orders (letter ∷ next ∷ rest) = false
