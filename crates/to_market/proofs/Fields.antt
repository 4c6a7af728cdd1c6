-- What a new order's fields are read as, and the rows on them.
use Rattle.std.proofs.Common.{◌≡◌, Bool, ℕ, List, [], ◌∷◌, refl, ap, ◌∙◌}
use Rattle.std.specs.Prelude.{◌&&◌, not, Option, Some, None, is_some, is_ok, unwrap_or, bytes_eq, codes, slice_index}
use Rattle.std.specs.Prelude.{if◌then◌else◌}
use Rattle.std.specs.List.{list_any}
use Rattle.std.specs.Result.{result_unwrap_or}
use Rattle.fixed_point.specs.Decimal.{price, quantity}
use Rattle.order_law.specs.fix_fields.Field.{first_value, Message, has, text, is, is_one_of, character}
use Rattle.fix_types.specs.declared.new_order.NewOrder.{NewOrder}
use Rattle.fix_values.specs.Slots.{char_text}
use Rattle.fix_types.specs.NewOrder.{new_order_fields}
use Rattle.fix_types.proofs.NewOrderValues.{side-value, symbol-value, quantity-value, type-value, price-value}
use Rattle.fix_types.proofs.NewOrderValues.{life_time-value, instruction-value, capacity-value, minimum-value}
use Rattle.order_law.specs.Asks.{Day, Immediate, total_of, limit_of, minimum_of, display_of, life_time_of, capacity_of}
use Rattle.order_law.specs.Verdicts.{Row, field_rows, sides, life_times_of_new, capacities, is_symbol, is_minimum}
use Rattle.to_market.specs.declared.refusal.Refusal.TheVariants as refusals
use Rattle.to_market.specs.FieldRows.{is_among, is_none_of, life_time, display, minimum, minimum_said}
use Rattle.to_market.specs.FieldRows.{is_no_minimum, refusal_row}
use Rattle.to_market.proofs.Rows.{price_rows, price_rows_of}

-- the tests on a value that may be missing
other_test : (wanted : List (List ℕ)) (v : Option (List ℕ))
    → (is_some v && not (list_any (λ wanted_text. bytes_eq (unwrap_or v []) wanted_text) wanted)) ≡ is_none_of wanted v
other_test wanted None = refl
other_test wanted (Some value) = refl

pub other-same : (tag : ℕ) (wanted : List (List ℕ)) (m : Message) (v : Option (List ℕ)) → first_value tag m ≡ v
    → (has tag m && not (is_one_of tag wanted m)) ≡ is_none_of wanted v
other-same tag wanted m v e = rw e (other_test wanted v)

pub no_minimum : (total : ℕ) (v : Option (List ℕ)) (m : Message) → first_value 110 m ≡ v → total_of m ≡ total
    → (has 110 m && not (is_minimum m)) ≡ is_no_minimum total v
no_minimum total None m e t = rw e refl
no_minimum total (Some value) m e t = rw (e, t) refl

-- the rows as a table of their tests, and those on 44
unfoldable pub table : (side symbol type life instruction capacity quantity minimum : Bool) → List Row → List Row
table side symbol type life instruction capacity quantity minimum prices =
    refusal_row side refusals.Side
    ∷ refusal_row symbol refusals.Symbol
    ∷ refusal_row type refusals.OrderType
    ∷ refusal_row life refusals.TimeInForce
    ∷ refusal_row instruction refusals.ExecutionInstruction
    ∷ refusal_row capacity refusals.Capacity
    ∷ refusal_row quantity refusals.Quantity
    ∷ refusal_row minimum refusals.MinimumQuantity
    ∷ prices

as_table : (m : Message) → field_rows m ≡ table (not (is_one_of 54 sides m)) (not (is_symbol (text 55 m))) (not (is 40 (codes "2") m)) (has 59 m && not (is_one_of 59 life_times_of_new m)) (has 18 m && not (is_one_of 18 (codes "6" ∷ []) m)) (has 528 m && not (is_one_of 528 capacities m)) (not (is_ok (quantity 1 (text 38 m)))) (has 110 m && not (is_minimum m)) (price_rows (not (has 44 m)) (price (text 44 m)))
unfolding table
as_table m = refl

-- of a message's own fields
abbrev pub rows_of : NewOrder → List Row
rows_of m = table (not (is_among sides (m.side ∷ []))) (not (is_symbol m.symbol)) (not (bytes_eq (m.ord_type ∷ []) (codes "2"))) (is_none_of life_times_of_new (char_text m.time_in_force)) (is_none_of (codes "6" ∷ []) m.exec_inst) (is_none_of capacities (char_text m.order_capacity)) (not (is_ok (quantity 1 m.order_qty))) (is_no_minimum (result_unwrap_or (quantity 1 m.order_qty) 0) m.min_qty) (price_rows_of m.price)

-- a field that is always there
pub text_there : (tag : ℕ) (m : Message) (value : List ℕ) → first_value tag m ≡ Some value → text tag m ≡ value
text_there tag m value e = ap (λ (v : Option (List ℕ)). unwrap_or v []) e

pub total_of-fields : (m : NewOrder) → total_of (new_order_fields m) ≡ result_unwrap_or (quantity 1 m.order_qty) 0
total_of-fields m = ap (λ (t : List ℕ). result_unwrap_or (quantity 1 t) 0)
    (text_there 38 (new_order_fields m) m.order_qty (quantity-value m))

-- the rows on a message are those on its fields
pub field_rows-fields : (m : NewOrder) → field_rows (new_order_fields m) ≡ rows_of m
field_rows-fields m =
    let fs : Message = new_order_fields m in
    let side : not (is_one_of 54 sides fs) ≡ not (is_among sides (m.side ∷ [])) =
    ap (λ (t : List ℕ). not (is_among sides t)) (text_there 54 fs _ (side-value m)) in
    let symbol : not (is_symbol (text 55 fs)) ≡ not (is_symbol m.symbol) =
    ap (λ (t : List ℕ). not (is_symbol t)) (text_there 55 fs _ (symbol-value m)) in
    let type : not (is 40 (codes "2") fs) ≡ not (bytes_eq (m.ord_type ∷ []) (codes "2")) = ap (λ (t : List ℕ). not (bytes_eq t (codes "2"))) (text_there 40 fs _ (type-value m)) in
    let quantity_there : not (is_ok (quantity 1 (text 38 fs))) ≡ not (is_ok (quantity 1 m.order_qty)) =
    ap (λ (t : List ℕ). not (is_ok (quantity 1 t))) (text_there 38 fs _ (quantity-value m)) in
    let missing : not (has 44 fs) ≡ not (is_some m.price) =
    ap (λ (v : Option (List ℕ)). not (is_some v)) (price-value m) in
    let text_of_price : text 44 fs ≡ unwrap_or m.price [] = ap (λ (v : Option (List ℕ)). unwrap_or v []) (price-value m)
    in
    as_table fs
    ∙ rw (side, symbol, type, other-same 59 life_times_of_new fs _ (life_time-value m), other-same 18 (codes "6" ∷ []) fs _ (instruction-value m), other-same 528 capacities fs _ (capacity-value m), quantity_there, no_minimum _ m.min_qty fs (minimum-value m) (total_of-fields m), missing, text_of_price) refl

pub character-fields : (m : NewOrder) → character 54 (new_order_fields m) ≡ m.side
character-fields m = ap (λ (t : List ℕ). slice_index t 0) (text_there 54 (new_order_fields m) _ (side-value m))

pub symbol-fields : (m : NewOrder) → text 55 (new_order_fields m) ≡ m.symbol
symbol-fields m = text_there 55 (new_order_fields m) m.symbol (symbol-value m)

pub limit_of-fields : (m : NewOrder) → limit_of (new_order_fields m) ≡ result_unwrap_or (price (unwrap_or m.price [])) 0
limit_of-fields m = ap (λ (v : Option (List ℕ)). result_unwrap_or (price (unwrap_or v [])) 0) (price-value m)

pub life_time_test : (v : Option (List ℕ)) → (if list_any (λ t. bytes_eq (unwrap_or v []) t) (codes "3" ∷ codes "4" ∷ []) then Immediate else Day) ≡ life_time v
life_time_test None = refl
life_time_test (Some value) = refl

pub life_time_of-fields : (m : NewOrder) → life_time_of (new_order_fields m) ≡ life_time (char_text m.time_in_force)
life_time_of-fields m = ap (λ (v : Option (List ℕ)). if list_any (λ t. bytes_eq (unwrap_or v []) t) (codes "3" ∷ codes "4" ∷ []) then Immediate else Day) (life_time-value m) ∙ life_time_test (char_text m.time_in_force)

pub display_test : (v : Option (List ℕ)) → (if bytes_eq (unwrap_or v []) (codes "6") then 80 else 89) ≡ display v
display_test None = refl
display_test (Some value) = refl

pub display_of-fields : (m : NewOrder) → display_of (new_order_fields m) ≡ display m.exec_inst
display_of-fields m = ap (λ (v : Option (List ℕ)). if bytes_eq (unwrap_or v []) (codes "6") then 80 else 89) (instruction-value m) ∙ display_test m.exec_inst

capacity_test : (own : ℕ) (c : Option ℕ) →
    (if is_some (char_text c) then slice_index (unwrap_or (char_text c) []) 0 else own) ≡ unwrap_or c own
capacity_test own None = refl
capacity_test own (Some byte) = refl

pub capacity_of-fields : (own : ℕ) (m : NewOrder)
    → capacity_of own (new_order_fields m) ≡ unwrap_or m.order_capacity own
capacity_of-fields own m = ap (λ (v : Option (List ℕ)). if is_some v then slice_index (unwrap_or v []) 0 else own)
    (capacity-value m) ∙ capacity_test own m.order_capacity

pub minimum_test : (v : Option (List ℕ)) → (if is_some v then result_unwrap_or (quantity 0 (unwrap_or v [])) 0 else 0)
    ≡ minimum v
minimum_test None = refl
minimum_test (Some value) = refl

pub least_of : (m : Message) (v : Option (List ℕ)) → first_value 110 m ≡ v
    → (if has 110 m then result_unwrap_or (quantity 0 (text 110 m)) 0 else 0) ≡ minimum v
least_of m v e = ap (λ (w : Option (List ℕ)). if is_some w then result_unwrap_or (quantity 0 (unwrap_or w [])) 0 else 0)
    e ∙ minimum_test v

said_test : (v : Option (List ℕ)) (total least : ℕ) → (if bytes_eq (unwrap_or v []) (codes "4") then total else least) ≡ minimum_said v total least
said_test None total least = refl
said_test (Some value) total least = refl

-- the minimum quantity by the values of 59, of 110 and of the total
pub minimum_of-values : (m : Message) (life least : Option (List ℕ)) → first_value 59 m ≡ life
    → first_value 110 m ≡ least → minimum_of m ≡ minimum_said life (total_of m) (minimum least)
minimum_of-values m life least is_life is_least =
    rw (least_of m least is_least) (ap (λ (v : Option (List ℕ)). if bytes_eq (unwrap_or v []) (codes "4") then total_of m else minimum least) is_life ∙ said_test life (total_of m) (minimum least))

pub minimum_of-fields : (m : NewOrder) → minimum_of (new_order_fields m)
    ≡ minimum_said (char_text m.time_in_force) (result_unwrap_or (quantity 1 m.order_qty) 0) (minimum m.min_qty)
minimum_of-fields m =
    minimum_of-values (new_order_fields m) (char_text m.time_in_force) m.min_qty (life_time-value m) (minimum-value m)
    ∙ ap (λ (total : ℕ). minimum_said (char_text m.time_in_force) total (minimum m.min_qty)) (total_of-fields m)
