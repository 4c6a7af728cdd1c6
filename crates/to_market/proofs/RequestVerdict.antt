-- The verdict of the rows on a replace, one row after another.
use Rattle.std.proofs.Common.{◌≡◌, Bool, true, false, ℕ, List, [], ◌∷◌, refl, sym, ap, ◌∙◌}
use Rattle.std.specs.Prelude.{is_ok, bytes_eq, codes, Result, Ok, Some, nat_le, unwrap_or}
use Rattle.std.specs.Result.{result_unwrap_or}
use Rattle.fixed_point.specs.Decimal.{price, quantity}
use Rattle.fixed_point.specs.declared.refusal.DecimalRefusal.{DecimalRefusal}
use Rattle.fix_types.specs.declared.replace_request.ReplaceRequest.{ReplaceRequest}
use Rattle.fix_types.specs.ReplaceRequest.{replace_request_fields}
use Rattle.fix_values.specs.Slots.{char_text}
use Rattle.order_law.specs.Asks.{LifeTime, life_time_of_seconds}
use Rattle.order_law.specs.Verdicts.{Accepted, Named, Port, Row, Verdict, first_row, has_to_wait, last_token}
use Rattle.order_law.specs.Verdicts.{life_times, most_replaces, port_rows, rows_of_request}
use Rattle.to_market.specs.declared.named_order.NamedOrder.{NamedOrder}
use Rattle.to_market.specs.declared.refusal.Refusal.{Refusal}
use Rattle.to_market.specs.declared.refusal.Refusal.TheVariants as refusals
use Rattle.to_market.specs.declared.replace_ask.ReplaceAsk.{ReplaceAsk}
use Rattle.to_market.specs.FieldRows.{RefusesPrice, display, is_no_minimum, is_none_of, life_time, minimum, price_read}
use Rattle.to_market.specs.Names.{HasRead, ReachesTerms, changes_terms}
use Rattle.to_market.specs.Refusals.{request_refused_by}
use Rattle.to_market.specs.RequestAsks.{AsksToReplace}
use Rattle.to_market.proofs.Rows.{first_row-append, follows, price-refused_request, price-taken, price_rows_of}
use Rattle.to_market.proofs.ReplaceFields.{change_rows, change_table, display_of-replace, kind-replace, last_rows}
use Rattle.to_market.proofs.ReplaceFields.{life_time_of-replace, limit_of-replace, minimum_of-replace}
use Rattle.to_market.proofs.ReplaceFields.{replace_rows-fields, replace_table, row, total_of-replace}

-- behind rows that don't hold, the others decide
behind : (used late waits : Bool) (ports changes : List Row) → used ≡ false → late ≡ false → first_row ports ≡ Accepted
    → waits ≡ false → first_row (replace_table used late ports waits changes) ≡ first_row changes
unfolding replace_table
behind used late waits ports changes is_new is_open takes answered =
    rw (is_new, is_open, answered) (first_row-append ports (row false refusals.AlreadyPending ∷ changes)
    ∙ rw takes refl)

pub by_changes : (used : Bool) (n : Named) (o : NamedOrder) (port : Port) (given : ℕ) (m : ReplaceRequest)
    → ReachesTerms used n port → HasRead n o
    → first_row (rows_of_request used (Some n) port given (replace_request_fields m))
    ≡ first_row (change_rows m o given)
by_changes used n o port given m reaches read =
    ap first_row (replace_rows-fields used n o port given m read)
    ∙ behind used n.reading.is_closed (has_to_wait true n.chain) (port_rows port)
    (change_rows m o given) reaches.is_new reaches.is_open reaches.takes_orders reaches.may

pub other_terms : (o : NamedOrder) (given : ℕ) (m : ReplaceRequest) → changes_terms o m ≡ true
    → first_row (change_rows m o given) ≡ request_refused_by refusals.OtherTerms
unfolding change_table
other_terms o given m other = rw other refl

pub by_type : (o : NamedOrder) (given : ℕ) (m : ReplaceRequest) → changes_terms o m ≡ false → bytes_eq (m.ord_type ∷ []) (codes "2") ≡ false → first_row (change_rows m o given) ≡ request_refused_by refusals.OrderType
unfolding change_table
by_type o given m terms other = rw (terms, other) refl

pub by_life_time : (o : NamedOrder) (given : ℕ) (m : ReplaceRequest) → changes_terms o m ≡ false → bytes_eq (m.ord_type ∷ []) (codes "2") ≡ true → is_none_of life_times (char_text m.time_in_force) ≡ true
    → first_row (change_rows m o given) ≡ request_refused_by refusals.TimeInForce
unfolding change_table
by_life_time o given m terms type other = rw (terms, type, other) refl

pub by_instruction : (o : NamedOrder) (given : ℕ) (m : ReplaceRequest) → changes_terms o m ≡ false → bytes_eq (m.ord_type ∷ []) (codes "2") ≡ true → is_none_of life_times (char_text m.time_in_force) ≡ false → is_none_of (codes "6" ∷ []) m.exec_inst ≡ true
    → first_row (change_rows m o given) ≡ request_refused_by refusals.ExecutionInstruction
unfolding change_table
by_instruction o given m terms type life_time other = rw (terms, type, life_time, other) refl

-- the rows before those on 38, 110 and 44 don't hold
pub record PassesKind (o : NamedOrder) (m : ReplaceRequest) : Type 0 where
  pub terms : changes_terms o m ≡ false
  pub type : bytes_eq (m.ord_type ∷ []) (codes "2") ≡ true
  pub life_time : is_none_of life_times (char_text m.time_in_force) ≡ false
  pub instruction : is_none_of (codes "6" ∷ []) m.exec_inst ≡ false

pub by_quantity : (o : NamedOrder) (given : ℕ) (m : ReplaceRequest) → PassesKind o m
    → is_ok (quantity 1 m.order_qty) ≡ false → first_row (change_rows m o given) ≡ request_refused_by refusals.Quantity
unfolding change_table
by_quantity o given m passes unread = rw (passes.terms, passes.type, passes.life_time, passes.instruction, unread) refl

pub by_minimum : (o : NamedOrder) (given : ℕ) (m : ReplaceRequest) (shares : ℕ) → PassesKind o m
    → ◌≡◌ {A = Result ℕ DecimalRefusal} (quantity 1 m.order_qty) (Ok shares) → is_no_minimum shares m.min_qty ≡ true
    → first_row (change_rows m o given) ≡ request_refused_by refusals.MinimumQuantity
unfolding change_table
by_minimum o given m shares passes said bad =
    rw (passes.terms, passes.type, passes.life_time, passes.instruction, said, bad) refl

-- with shares and a minimum read, the rows on 44 and the last ones decide
abbrev last : NamedOrder → ℕ → ℕ → Verdict
last o given shares = first_row (last_rows (nat_le shares o.executed) (nat_le most_replaces o.replaces)
    (nat_le last_token given))

by_price : (o : NamedOrder) (given : ℕ) (m : ReplaceRequest) (shares : ℕ) → PassesKind o m
    → ◌≡◌ {A = Result ℕ DecimalRefusal} (quantity 1 m.order_qty) (Ok shares) → is_no_minimum shares m.min_qty ≡ false
    → first_row (change_rows m o given) ≡ follows (first_row (price_rows_of m.price)) (last o given shares)
unfolding change_table
by_price o given m shares passes said good =
    rw (passes.terms, passes.type, passes.life_time, passes.instruction, said, good)
    (first_row-append (price_rows_of m.price)
    (last_rows (nat_le shares o.executed) (nat_le most_replaces o.replaces) (nat_le last_token given)))

pub price_refused : (o : NamedOrder) (given : ℕ) (m : ReplaceRequest) (shares : ℕ) (refusal : Refusal) → PassesKind o m
    → ◌≡◌ {A = Result ℕ DecimalRefusal} (quantity 1 m.order_qty) (Ok shares) → is_no_minimum shares m.min_qty ≡ false
    → RefusesPrice (price_read m.price) refusal → first_row (change_rows m o given) ≡ request_refused_by refusal
price_refused o given m shares refusal passes said good refuses =
    by_price o given m shares passes said good
    ∙ ap (λ (v : Verdict). follows v (last o given shares)) (price-refused_request m.price refusal refuses)

-- no row on what it says itself holds, with these shares and this price
pub record PassesFields (o : NamedOrder) (m : ReplaceRequest) (shares limit : ℕ) : Type 0 where
  pub kind : PassesKind o m
  pub said : ◌≡◌ {A = Result ℕ DecimalRefusal} (quantity 1 m.order_qty) (Ok shares)
  pub good : is_no_minimum shares m.min_qty ≡ false
  pub read : price_read m.price ≡ Some (Ok limit)

-- then the last ones decide
by_last : (o : NamedOrder) (given : ℕ) (m : ReplaceRequest) (shares limit : ℕ) → PassesFields o m shares limit
    → first_row (change_rows m o given) ≡ last o given shares
by_last o given m shares limit passes =
    by_price o given m shares passes.kind passes.said passes.good
    ∙ ap (λ (v : Verdict). follows v (last o given shares)) (price-taken m.price limit passes.read)

pub by_total : (o : NamedOrder) (given : ℕ) (m : ReplaceRequest) (shares limit : ℕ) → PassesFields o m shares limit
    → nat_le shares o.executed ≡ true
    → first_row (change_rows m o given) ≡ request_refused_by refusals.TotalNotAboveExecuted
by_total o given m shares limit passes low = by_last o given m shares limit passes ∙ rw low refl

pub by_limit : (o : NamedOrder) (given : ℕ) (m : ReplaceRequest) (shares limit : ℕ) → PassesFields o m shares limit
    → nat_le shares o.executed ≡ false → nat_le most_replaces o.replaces ≡ true
    → first_row (change_rows m o given) ≡ request_refused_by refusals.ReplaceLimit
by_limit o given m shares limit passes above many = by_last o given m shares limit passes ∙ rw (above, many) refl

pub by_token : (o : NamedOrder) (given : ℕ) (m : ReplaceRequest) (shares limit : ℕ) → PassesFields o m shares limit
    → nat_le shares o.executed ≡ false → nat_le most_replaces o.replaces ≡ false → nat_le last_token given ≡ true
    → first_row (change_rows m o given) ≡ request_refused_by refusals.NoTokenLeft
by_token o given m shares limit passes above few spent = by_last o given m shares limit passes
    ∙ rw (above, few, spent) refl

pub by_none : (o : NamedOrder) (given : ℕ) (m : ReplaceRequest) (shares limit : ℕ) → PassesFields o m shares limit
    → nat_le shares o.executed ≡ false → nat_le most_replaces o.replaces ≡ false → nat_le last_token given ≡ false
    → first_row (change_rows m o given) ≡ Accepted
by_none o given m shares limit passes above few left = by_last o given m shares limit passes
    ∙ rw (above, few, left) refl

-- an ask that has what each field says
pub record HasFields (ask : ReplaceAsk) (m : ReplaceRequest) : Type 0 where
  pub shares : ◌≡◌ {A = Result ℕ DecimalRefusal} (quantity 1 m.order_qty) (Ok ask.shares)
  pub price : ◌≡◌ {A = Result ℕ DecimalRefusal} (price (unwrap_or m.price [])) (Ok ask.price)
  pub life_time : life_time_of_seconds ask.time_in_force ≡ Some (life_time (char_text m.time_in_force))
  pub is_life : is_none_of life_times (char_text m.time_in_force) ≡ false
  pub display : ask.display ≡ display m.exec_inst
  pub minimum : ask.minimum_quantity ≡ minimum m.min_qty

-- says what the message asks
pub AsksToReplace-fields : (ask : ReplaceAsk) (m : ReplaceRequest) → HasFields ask m
    → AsksToReplace ask (replace_request_fields m)
AsksToReplace-fields ask m has = record {
  kind = kind-replace m;
  shares = sym (total_of-replace m ∙ ap (λ (r : Result ℕ DecimalRefusal). result_unwrap_or r 0) has.shares);
  price = sym (limit_of-replace m ∙ ap (λ (r : Result ℕ DecimalRefusal). result_unwrap_or r 0) has.price);
  life_time = has.life_time ∙ ap (λ (l : LifeTime). Some l) (sym (life_time_of-replace m));
  display = has.display ∙ sym (display_of-replace m);
  minimum = has.minimum ∙ sym (minimum_of-replace m has.is_life);
}
