-- What an order and a request are to the law where something is told of them.
use Rattle.std.specs.Prelude.{◌≡◌, ℕ, Bool, true, false, List, [], ◌∷◌, Option, Some, None, option_map, decimal}
use Rattle.std.specs.Prelude.{if◌then◌else◌}
use Rattle.std.specs.List.{list_any}
use Rattle.fix_values.specs.declared.cxl_rej_response_to.CxlRejResponseTo.{CxlRejResponseTo}
use Rattle.fix_values.specs.declared.cxl_rej_response_to.CxlRejResponseTo.TheVariants as responses
use Rattle.fix_values.specs.declared.exec_type.ExecType.{ExecType}
use Rattle.fix_values.specs.declared.exec_type.ExecType.TheVariants as kinds
use Rattle.fix_values.specs.declared.ord_status.OrdStatus.{OrdStatus}
use Rattle.fix_values.specs.declared.ord_status.OrdStatus.TheVariants as statuses
use Rattle.fix_values.specs.Letters.{exec_letter}
use Rattle.fix_values.specs.Slots.{char_text, number_text}
use Rattle.orders.specs.fix_types.declared.report.Report.{Report}
use Rattle.fixed_point.specs.Price.{price_text}
use Rattle.order_law.specs.fix_fields.Field.{Message, text}
use Rattle.order_law.specs.History.{Entry}
use Rattle.order_law.specs.Verdicts.{is_replace}
use Rattle.order_law.specs.Told as law
use Rattle.to_client.specs.declared.occasion.Details.{Details}
use Rattle.to_client.specs.declared.shown.Request.{Request}
use Rattle.to_client.specs.declared.shown.Shown.{Shown}
use Rattle.to_client.specs.Occasions.{average_of_text, leaves_in, status_as}

-- the value shows the order as the law does
pub record ShowsAs (x : Shown) (s : law.Shown) : Type 0 where
  pub order : decimal x.order_id ≡ s.order
  pub id : x.cl_ord_id.now ≡ s.id
  pub symbol : x.symbol.now ≡ s.symbol
  pub side : x.side ∷ [] ≡ s.side
  pub total : x.progress.now.total ≡ s.total
  pub price : x.progress.now.price ≡ s.price
  pub leaves : leaves_in x.progress.now ≡ s.leaves
  pub executed : x.progress.now.executed ≡ s.executed
  pub value : x.progress.now.value ≡ s.value
  pub stage : x.progress.now.stage ≡ s.stage
  pub is_refused : x.progress.now.is_refused ≡ s.is_refused
  pub cancel : list_any law.is_cancel s.pending ≡ x.has_pending_cancel
  pub replace : list_any (λ (q : Entry). is_replace q.message) s.pending ≡ x.has_pending_replace

-- the same, where there is an order
abbrev pub ShowsAny : Option Shown → Option law.Shown → Type 0
ShowsAny None None = Unit {0}
ShowsAny None (Some s) = ⊥
ShowsAny (Some x) None = ⊥
ShowsAny (Some x) (Some s) = ShowsAs x s

-- it is a replace
abbrev pub is_of_replace : CxlRejResponseTo → Bool
is_of_replace responses.Cancel = false
is_of_replace responses.Replace = true

-- the value has the ids and the kind of this message
pub record IsRequest (q : Request) (m : Message) : Type 0 where
  pub id : q.cl_ord_id.now ≡ text 11 m
  pub orig : q.orig_cl_ord_id.now ≡ text 41 m
  pub kind : is_replace m ≡ is_of_replace q.kind

-- OrdStatus (39)
abbrev pub status_with : Shown → OrdStatus
status_with x =
    if x.progress.now.is_refused then statuses.Rejected
    else if x.has_pending_cancel then statuses.PendingCancel
    else if x.has_pending_replace then statuses.PendingReplace else status_as x.progress.now

-- of an order that isn't known: rejected. (FIX 4.4 Volume 4, "Order Cancel Reject", OrdStatus.)
abbrev pub status_any : Option Shown → OrdStatus
status_any None = statuses.Rejected
status_any (Some x) = status_with x

-- ClOrdID (11) and OrigClOrdID (41): of the request that a report is on, or else the order's own and none
abbrev pub id_told : Option Request → Shown → List ℕ
id_told None x = x.cl_ord_id.now
id_told (Some q) x = q.cl_ord_id.now

abbrev pub orig_told : Option Request → Option (List ℕ)
orig_told None = None
orig_told (Some q) = Some q.orig_cl_ord_id.now

-- the same of a request's value, where there is one
abbrev pub IsAnyRequest : Option Request → Option Entry → Type 0
IsAnyRequest None None = Unit {0}
IsAnyRequest None (Some e) = ⊥
IsAnyRequest (Some q) None = ⊥
IsAnyRequest (Some q) (Some e) = IsRequest q e.message

-- the details and the request are those of an occasion
pub record IsOccasion (d : Details) (q : Option Request) (o : law.Occasion) : Type 0 where
  pub request : IsAnyRequest q o.request
  pub exec_type : exec_letter d.exec_type ∷ [] ≡ o.exec_type
  pub broken : number_text d.exec_ref_id ≡ o.broken
  pub code : number_text d.ord_rej_reason ≡ o.code
  pub restated : number_text d.exec_restatement_reason ≡ o.restated
  pub shares : d.last_qty ≡ o.shares
  pub at : d.last_px ≡ o.at
  pub why : char_text d.reason ≡ o.why

-- the report with these details
abbrev pub report_with : ℕ → Details → Option Request → Shown → Report
report_with number d q x = record {
  order_id = x.order_id;
  cl_ord_id = id_told q x;
  orig_cl_ord_id = orig_told q;
  exec_id = number;
  exec_ref_id = d.exec_ref_id;
  exec_type = d.exec_type;
  ord_status = status_with x;
  ord_rej_reason = d.ord_rej_reason;
  exec_restatement_reason = d.exec_restatement_reason;
  symbol = x.symbol.now;
  side = x.side;
  order_qty = decimal x.progress.now.total;
  price = Some (price_text x.progress.now.price);
  last_qty = d.last_qty;
  last_px = option_map (λ n. price_text n) d.last_px;
  leaves_qty = leaves_in x.progress.now;
  cum_qty = x.progress.now.executed;
  avg_px = average_of_text x.progress.now;
  text = char_text d.reason;
}

-- OrderID (37), where there is an order
abbrev pub id_number : Option Shown → Option ℕ
id_number None = None
id_number (Some x) = Some x.order_id

-- ExecType (150) of a request that is pending
abbrev pub pending_type : CxlRejResponseTo → ExecType
pending_type responses.Cancel = kinds.PendingCancel
pending_type responses.Replace = kinds.PendingReplace
