-- What is shown of a message to the market, by its fields' names. That it is what the layout has is shown in
-- `proofs/Layouts.antt`.
use Rattle.std.specs.Prelude.{ℕ, List, ◌++◌, codes}
use Rattle.ouch_codec.specs.Letters.{side_letter}
use Rattle.ouch_codec.specs.declared.inbound.enter_order.EnterOrder.{EnterOrder}
use Rattle.ouch_codec.specs.declared.inbound.replace.Replace.{Replace}
use Rattle.ouch_codec.specs.declared.inbound.cancel.Cancel.{Cancel}
use Rattle.gate_lines.specs.Words.{word, letter, shown_number}

-- the first fields of an Enter Order, in the layout's order (OUCH 4.2, "Enter Order Message")
abbrev pub shown_order : EnterOrder → List ℕ
shown_order m =
    codes " O"
    ++ word m.token
    ++ letter (side_letter m.side)
    ++ shown_number m.shares
    ++ word m.stock
    ++ shown_number m.price
    ++ shown_number m.time_in_force

-- and the others
abbrev pub shown_terms : EnterOrder → List ℕ
shown_terms m =
    word m.firm
    ++ letter m.display
    ++ letter m.capacity
    ++ letter m.intermarket_sweep
    ++ shown_number m.minimum_quantity
    ++ letter m.cross_type
    ++ letter m.customer_type

abbrev pub shown_enter_order : EnterOrder → List ℕ
shown_enter_order m = shown_order m ++ shown_terms m

-- in the layout's order (OUCH 4.2, "Replace Order Message")
abbrev pub shown_replace : Replace → List ℕ
shown_replace m =
    codes " U"
    ++ word m.token
    ++ word m.replacement_token
    ++ shown_number m.shares
    ++ shown_number m.price
    ++ shown_number m.time_in_force
    ++ letter m.display
    ++ letter m.intermarket_sweep
    ++ shown_number m.minimum_quantity

-- in the layout's order (OUCH 4.2, "Cancel Order Message")
abbrev pub shown_cancel : Cancel → List ℕ
shown_cancel m = codes " X" ++ word m.token ++ shown_number m.shares
