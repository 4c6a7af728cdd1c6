-- What the fields of a new order, of a cancel request and of a replace request have to be. (FIX 4.4 Volume 4, "New
-- Order - Single", "Order Cancel Request" and "Order Cancel/Replace Request", with the fields that the gateway
-- reads.)
use Rattle.std.specs.Prelude.{ℕ, List, [], ◌∷◌, Option}
use Rattle.fix_values.specs.Field.{Field}
use Rattle.fix_values.specs.declared.format.Format.TheVariants as formats
use Rattle.fix_values.specs.declared.format.Row.{Row}
use Rattle.fix_values.specs.fix_fields.declared.session_refusal.SessionRefusal.{SessionRefusal}
use Rattle.fix_values.specs.Formats.{first_refusal}

-- the tags that have to be there, in the order in which they are judged
abbrev pub new_order_required : List ℕ
new_order_required = 11 ∷ 54 ∷ 55 ∷ 38 ∷ 40 ∷ []

-- what values have to be, in the order in which they are judged
abbrev pub new_order_formats : List Row
new_order_formats =
    record { tag = 11; format = formats.ClOrdId }
    ∷ record { tag = 54; format = formats.Char }
    ∷ record { tag = 38; format = formats.Float }
    ∷ record { tag = 40; format = formats.Char }
    ∷ record { tag = 44; format = formats.Float }
    ∷ record { tag = 59; format = formats.Char }
    ∷ record { tag = 528; format = formats.Char }
    ∷ record { tag = 110; format = formats.Float }
    ∷ []

-- the first refusal that fields meet as a new order
abbrev pub new_order_refusal : List Field → Option SessionRefusal
new_order_refusal fs = first_refusal new_order_required new_order_formats fs

-- of an OrderCancelRequest (35=F) the two ids alone are read
abbrev pub cancel_required : List ℕ
cancel_required = 11 ∷ 41 ∷ []

abbrev pub cancel_rows : List Row
cancel_rows = record { tag = 11; format = formats.ClOrdId } ∷ record { tag = 41; format = formats.ClOrdId } ∷ []

-- the first refusal that fields meet as a cancel request
abbrev pub cancel_refusal : List Field → Option SessionRefusal
cancel_refusal fs = first_refusal cancel_required cancel_rows fs

-- of an OrderCancelReplaceRequest (35=G) the side and the symbol may be missing, since they can't be replaced
abbrev pub replace_required : List ℕ
replace_required = 11 ∷ 41 ∷ 38 ∷ 40 ∷ []

abbrev pub replace_rows : List Row
replace_rows =
    record { tag = 11; format = formats.ClOrdId }
    ∷ record { tag = 41; format = formats.ClOrdId }
    ∷ record { tag = 54; format = formats.Char }
    ∷ record { tag = 38; format = formats.Float }
    ∷ record { tag = 40; format = formats.Char }
    ∷ record { tag = 44; format = formats.Float }
    ∷ record { tag = 59; format = formats.Char }
    ∷ record { tag = 528; format = formats.Char }
    ∷ record { tag = 110; format = formats.Float }
    ∷ []

-- the first refusal that fields meet as a replace request
abbrev pub replace_refusal : List Field → Option SessionRefusal
replace_refusal fs = first_refusal replace_required replace_rows fs
