-- What a replace's fields are read as, and the rows on them.
use Rattle.std.proofs.Common.{◌≡◌, Bool, true, false, ℕ, List, [], ◌∷◌, ◌++◌, refl, ap, ◌∙◌, arith}
use Rattle.std.proofs.lemmas.Bool.Decides.{nat_tests}
use Rattle.std.specs.Prelude.{◌&&◌, ◌||◌, not, nat_le, Option, Some, None, is_some, is_ok, unwrap_or, bytes_eq, codes}
use Rattle.std.specs.Prelude.{if◌then◌else◌}
use Rattle.std.specs.List.{list_any}
use Rattle.std.specs.Result.{result_unwrap_or}
use Rattle.fixed_point.specs.Decimal.{price, quantity}
use Rattle.fix_types.specs.declared.replace_request.ReplaceRequest.{ReplaceRequest}
use Rattle.fix_values.specs.Slots.{char_text}
use Rattle.fix_types.specs.ReplaceRequest.{replace_request_fields}
use Rattle.fix_types.proofs.ReplaceRequestValues.{kind-value, side-value, symbol-value, quantity-value, type-value}
use Rattle.fix_types.proofs.ReplaceRequestValues.{price-value, life_time-value, instruction-value, capacity-value}
use Rattle.fix_types.proofs.ReplaceRequestValues.{minimum-value}
use Rattle.order_law.specs.fix_fields.Field.{Message, has, text, is, is_one_of}
use Rattle.order_law.specs.Asks.{Day, Immediate, total_of, limit_of, minimum_of, display_of, life_time_of}
use Rattle.order_law.specs.Verdicts.{Named, Port, Row, is_minimum, is_replace, last_token, life_times, most_replaces}
use Rattle.order_law.specs.Verdicts.{has_to_wait, port_rows, rows_of_request}
use Rattle.to_market.specs.declared.named_order.NamedOrder.{NamedOrder}
use Rattle.to_market.specs.declared.refusal.Refusal.{Refusal}
use Rattle.to_market.specs.declared.refusal.Refusal.TheVariants as refusals
use Rattle.to_market.specs.FieldRows.{is_fill_or_kill, is_none_of, life_time, display, minimum}
use Rattle.to_market.specs.FieldRows.{is_no_minimum}
use Rattle.to_market.specs.Names.{HasRead, changes_terms}
use Rattle.to_market.specs.Refusals.{request_code_of, refusal_text}
use Rattle.to_market.proofs.Fields.{display_test, life_time_test, minimum_of-values, no_minimum, other-same, text_there}
use Rattle.to_market.proofs.Rows.{price_rows, price_rows_of}

-- a row of requests that gives this refusal
abbrev pub row : Bool → Refusal → Row
row holds refusal = record { holds = holds; code = request_code_of refusal; why = refusal_text refusal }

-- the last rows, on the order and on tokens
abbrev pub last_rows : (low many spent : Bool) → List Row
last_rows low many spent = row low refusals.TotalNotAboveExecuted ∷ row many refusals.ReplaceLimit ∷ row spent
    refusals.NoTokenLeft ∷ []

-- those from the first that a replace alone has, by their tests
unfoldable pub change_table : (terms type life instruction quantity minimum : Bool) → List Row → List Row → List Row
change_table terms type life instruction quantity minimum prices last =
    row terms refusals.OtherTerms
    ∷ row type refusals.OrderType
    ∷ row life refusals.TimeInForce
    ∷ row instruction refusals.ExecutionInstruction
    ∷ row quantity refusals.Quantity
    ∷ row minimum refusals.MinimumQuantity
    ∷ prices
    ++ last

-- all rows on a replace of an order
unfoldable pub replace_table : (used late : Bool) → List Row → Bool → List Row → List Row
replace_table used late ports waits changes =
    row used refusals.DuplicateClOrdId ∷ row late refusals.TooLate ∷ ports
    ++ row waits refusals.AlreadyPending ∷ changes

-- a row by its test on a message
abbrev other : ℕ → List (List ℕ) → Message → Bool
other tag wanted m = has tag m && not (is_one_of tag wanted m)

as_table : (used : Bool) (n : Named) (port : Port) (given : ℕ) (m : Message) → is_replace m ≡ true
    → rows_of_request used (Some n) port given m
    ≡ replace_table used n.reading.is_closed (port_rows port) (has_to_wait true n.chain)
    (change_table (other 54 (n.side ∷ []) m || (other 55 (n.symbol ∷ []) m || other 528 ((n.capacity ∷ []) ∷ []) m)) (not (is 40 (codes "2") m)) (other 59 life_times m) (other 18 (codes "6" ∷ []) m) (not (is_ok (quantity 1 (text 38 m)))) (has 110 m && not (is_minimum m)) (price_rows (not (has 44 m)) (price (text 44 m)))
    (last_rows (nat_le (total_of m) n.reading.executed) (nat_le most_replaces n.replaces) (nat_le last_token given)))
unfolding replace_table change_table
as_table used n port given m e = rw e refl

pub total_of-replace : (m : ReplaceRequest)
    → total_of (replace_request_fields m) ≡ result_unwrap_or (quantity 1 m.order_qty) 0
total_of-replace m = ap (λ (t : List ℕ). result_unwrap_or (quantity 1 t) 0)
    (text_there 38 (replace_request_fields m) m.order_qty (quantity-value m))

-- those from the first that a replace alone has, over its own fields
abbrev pub change_rows : ReplaceRequest → NamedOrder → ℕ → List Row
change_rows m o given =
    change_table (changes_terms o m) (not (bytes_eq (m.ord_type ∷ []) (codes "2"))) (is_none_of life_times (char_text m.time_in_force)) (is_none_of (codes "6" ∷ []) m.exec_inst) (not (is_ok (quantity 1 m.order_qty))) (is_no_minimum (result_unwrap_or (quantity 1 m.order_qty) 0) m.min_qty) (price_rows_of m.price)
    (last_rows (nat_le (result_unwrap_or (quantity 1 m.order_qty) 0) o.executed) (nat_le most_replaces o.replaces)
    (nat_le last_token given))

-- the rows on a replace are those on its fields and on what was read of its order
pub replace_rows-fields : (used : Bool) (n : Named) (o : NamedOrder) (port : Port) (given : ℕ) (m : ReplaceRequest)
    → HasRead n o
    → rows_of_request used (Some n) port given (replace_request_fields m)
    ≡ replace_table used n.reading.is_closed (port_rows port) (has_to_wait true n.chain) (change_rows m o given)
replace_rows-fields used n o port given m read =
    let fs : Message = replace_request_fields m in
    let kind : is_replace fs ≡ true = ap (λ (v : Option (List ℕ)). bytes_eq (unwrap_or v []) (codes "G")) (kind-value m) in
    let type : not (is 40 (codes "2") fs) ≡ not (bytes_eq (m.ord_type ∷ []) (codes "2")) = ap (λ (t : List ℕ). not (bytes_eq t (codes "2"))) (text_there 40 fs _ (type-value m)) in
    let quantity_there : not (is_ok (quantity 1 (text 38 fs))) ≡ not (is_ok (quantity 1 m.order_qty)) =
    ap (λ (t : List ℕ). not (is_ok (quantity 1 t))) (text_there 38 fs _ (quantity-value m)) in
    let missing : not (has 44 fs) ≡ not (is_some m.price) =
    ap (λ (v : Option (List ℕ)). not (is_some v)) (price-value m) in
    let text_of_price : text 44 fs ≡ unwrap_or m.price [] = ap (λ (v : Option (List ℕ)). unwrap_or v []) (price-value m)
    in
    as_table used n port given fs kind
    ∙ rw (other-same 54 (n.side ∷ []) fs _ (side-value m), other-same 55 (n.symbol ∷ []) fs _ (symbol-value m), other-same 528 ((n.capacity ∷ []) ∷ []) fs _ (capacity-value m), type, other-same 59 life_times fs _ (life_time-value m), other-same 18 (codes "6" ∷ []) fs _ (instruction-value m), quantity_there, no_minimum _ m.min_qty fs (minimum-value m) (total_of-replace m), missing, text_of_price, total_of-replace m, read.side, read.symbol, read.capacity, read.executed, read.replaces) refl

pub kind-replace : (m : ReplaceRequest) → text 35 (replace_request_fields m) ≡ codes "G"
kind-replace m = text_there 35 (replace_request_fields m) _ (kind-value m)

pub limit_of-replace : (m : ReplaceRequest)
    → limit_of (replace_request_fields m) ≡ result_unwrap_or (price (unwrap_or m.price [])) 0
limit_of-replace m = ap (λ (v : Option (List ℕ)). result_unwrap_or (price (unwrap_or v [])) 0) (price-value m)

pub life_time_of-replace : (m : ReplaceRequest)
    → life_time_of (replace_request_fields m) ≡ life_time (char_text m.time_in_force)
life_time_of-replace m = ap (λ (v : Option (List ℕ)). if list_any (λ t. bytes_eq (unwrap_or v []) t) (codes "3" ∷ codes "4" ∷ []) then Immediate else Day) (life_time-value m) ∙ life_time_test (char_text m.time_in_force)

pub display_of-replace : (m : ReplaceRequest) → display_of (replace_request_fields m) ≡ display m.exec_inst
display_of-replace m = ap (λ (v : Option (List ℕ)). if bytes_eq (unwrap_or v []) (codes "6") then 80 else 89) (instruction-value m) ∙ display_test m.exec_inst

-- a life that a replace may have isn't fill or kill
not_fill_or_kill : (life : Option ℕ) → is_none_of life_times (char_text life) ≡ false
    → is_fill_or_kill (char_text life) ≡ false
not_fill_or_kill None e = refl
not_fill_or_kill (Some byte) e = grind (arith, nat_tests)

pub minimum_of-replace : (m : ReplaceRequest) → is_none_of life_times (char_text m.time_in_force) ≡ false
    → minimum_of (replace_request_fields m) ≡ minimum m.min_qty
minimum_of-replace m is_life =
    minimum_of-values (replace_request_fields m) (char_text m.time_in_force) m.min_qty (life_time-value m)
    (minimum-value m)
    ∙ rw (not_fill_or_kill m.time_in_force is_life) refl
