-- Reports on requests, and rejects of them, are those that the law writes.
use Rattle.std.proofs.Common.{◌≡◌, ℕ, List, [], ◌∷◌, refl, ap, ◌∙◌, codes, decimal}
use Rattle.std.specs.Prelude.{Option, Some, None, if◌then◌else◌}
use Rattle.orders.specs.fix_types.declared.cancel_reject.CancelReject.{CancelReject}
use Rattle.orders.specs.fix_types.declared.report.Report.{Report}
use Rattle.orders.specs.fix_types.CancelReject.{cancel_reject_fields}
use Rattle.orders.specs.fix_types.Report.{report_fields}
use Rattle.fix_values.specs.declared.cxl_rej_response_to.CxlRejResponseTo.{CxlRejResponseTo}
use Rattle.fix_values.specs.declared.cxl_rej_response_to.CxlRejResponseTo.TheVariants as responses
use Rattle.fix_values.specs.declared.exec_type.ExecType.TheVariants as kinds
use Rattle.fix_values.specs.Letters.{response_letter, status_letter}
use Rattle.fix_values.specs.Slots.{char_text, order_id_text}
use Rattle.order_law.specs.fix_fields.Field.{Message, text}
use Rattle.order_law.specs.History.{Entry}
use Rattle.order_law.specs.Verdicts.{is_replace}
use Rattle.order_law.specs.Told as law
use Rattle.to_client.specs.declared.occasion.Details.{Details}
use Rattle.to_client.specs.declared.shown.Request.{Request}
use Rattle.to_client.specs.declared.shown.Shown.{Shown}
use Rattle.to_client.specs.Occasions.{plain_details}
use Rattle.to_client.specs.Shows.{IsOccasion, IsRequest, ShowsAny, ShowsAs, id_number, is_of_replace}
use Rattle.to_client.specs.Shows.{pending_type, status_any}
use Rattle.to_client.proofs.Statuses.{status-shown}

-- a report that tells each occasion of these details
abbrev pub Tells : ℕ → Details → Request → Shown → Report → Type 0
Tells number d q x r = (o : law.Occasion) (s : law.Shown) → IsOccasion d (Some q) o → ShowsAs x s
    → report_fields r ≡ law.report number o s

pub pending-told : (kind : CxlRejResponseTo) (number : ℕ) (d : Details) (q : Request) (x : Shown) (r : Report)
    (e : Entry) (s : law.Shown)
    → d ≡ plain_details (pending_type kind) → is_replace e.message ≡ is_of_replace kind → Tells number d q x r
    → IsRequest q e.message → ShowsAs x (law.with_request e s)
    → report_fields r ∷ [] ≡ law.accepted_request number e (Some s)
pending-told responses.Cancel number d q x r e s plain is_cancel tells is shows =
    let occasion : IsOccasion d (Some q) (law.on_request (codes "6") e) = rw plain (record { request = is; exec_type = refl; broken = refl; code = refl; restated = refl; shares = refl; at = refl; why = refl }) in
    rw is_cancel (ap (λ (m : Message). m ∷ []) (tells (law.on_request (codes "6") e) (law.with_request e s) occasion shows))
pending-told responses.Replace number d q x r e s plain is_g tells is shows =
    let occasion : IsOccasion d (Some q) (law.on_request (codes "E") e) = rw plain (record { request = is; exec_type = refl; broken = refl; code = refl; restated = refl; shares = refl; at = refl; why = refl }) in
    rw is_g (ap (λ (m : Message). m ∷ []) (tells (law.on_request (codes "E") e) (law.with_request e s) occasion shows))

pub replaced-told : (number : ℕ) (d : Details) (q : Request) (x : Shown) (r : Report) (e : Entry) (s : law.Shown)
    → d ≡ plain_details kinds.Replaced → Tells number d q x r → IsRequest q e.message → ShowsAs x s → report_fields r ≡ law.report number (law.on_request (codes "5") e) s
replaced-told number d q x r e s plain tells is shows =
    let occasion : IsOccasion d (Some q) (law.on_request (codes "5") e) = rw plain (record { request = is; exec_type = refl; broken = refl; code = refl; restated = refl; shares = refl; at = refl; why = refl }) in
    tells (law.on_request (codes "5") e) s occasion shows

-- ---- rejects

-- what a reject says, field by field
record Rejected : Type 0 where
  order : List ℕ
  id : List ℕ
  orig : List ℕ
  status : List ℕ
  answers : List ℕ
  code : List ℕ
  why : List ℕ

abbrev written : Rejected → Message
written f = law.in_order (
    law.told_field 35 (codes "9")
    ∷ law.told_field 37 f.order
    ∷ law.told_field 11 f.id
    ∷ law.told_field 41 f.orig
    ∷ law.told_field 39 f.status
    ∷ law.told_field 434 f.answers
    ∷ law.told_field 102 f.code
    ∷ law.told_field 58 f.why
    ∷ [])

same_written : (f g : Rejected) → f.order ≡ g.order → f.id ≡ g.id → f.orig ≡ g.orig → f.status ≡ g.status
    → f.answers ≡ g.answers → f.code ≡ g.code → f.why ≡ g.why → written f ≡ written g
same_written f g order id orig status answers code why = rw (order, id, orig, status, answers, code, why) refl

-- CxlRejResponseTo (434)
answers-told : (kind : CxlRejResponseTo) (m : Message) → is_replace m ≡ is_of_replace kind → response_letter kind ∷ [] ≡ (if is_replace m then codes "2" else codes "1")
answers-told responses.Cancel m is = rw is refl
answers-told responses.Replace m is = rw is refl

-- a reject that is filled in so
pub record IsRejectOf (q : Request) (order : Option Shown) (reason : ℕ) (why : List ℕ) (r : CancelReject) : Type 0 where
  pub order_id : r.order_id ≡ id_number order
  pub id : r.cl_ord_id ≡ q.cl_ord_id.now
  pub orig : r.orig_cl_ord_id ≡ q.orig_cl_ord_id.now
  pub status : r.ord_status ≡ status_any order
  pub answers : r.cxl_rej_response_to ≡ q.kind
  pub code : r.cxl_rej_reason ≡ reason
  pub words : r.text ≡ why

abbrev law_fields : Message → List ℕ → List ℕ → ℕ → List ℕ → Rejected
law_fields m order status code why = record {
  order = order;
  id = text 11 m;
  orig = text 41 m;
  status = status;
  answers = if is_replace m then codes "2" else codes "1";
  code = decimal code;
  why = why;
}

abbrev fields_in : CancelReject → Rejected
fields_in r = record {
  order = order_id_text r.order_id;
  id = r.cl_ord_id;
  orig = r.orig_cl_ord_id;
  status = status_letter r.ord_status ∷ [];
  answers = response_letter r.cxl_rej_response_to ∷ [];
  code = decimal r.cxl_rej_reason;
  why = r.text;
}

reject-written : (q : Request) (order : Option Shown) (code : ℕ) (why : List ℕ) (r : CancelReject) (m : Message)
    (id status : List ℕ) → IsRejectOf q order code why r → IsRequest q m
    → order_id_text (id_number order) ≡ id → status_letter (status_any order) ∷ [] ≡ status
    → cancel_reject_fields r ≡ written (law_fields m id status code why)
reject-written q order code why r m id status is asks id_is status_is =
    same_written (fields_in r) (law_fields m id status code why)
    (ap order_id_text is.order_id ∙ id_is)
    (is.id ∙ asks.id)
    (is.orig ∙ asks.orig)
    (ap (λ st. status_letter st ∷ []) is.status ∙ status_is)
    (ap (λ k. response_letter k ∷ []) is.answers ∙ answers-told q.kind m asks.kind)
    (ap decimal is.code)
    is.words

pub reject-told : (q : Request) (order : Option Shown) (code : ℕ) (why : List ℕ) (r : CancelReject) (m : Message)
    (s : Option law.Shown) → IsRejectOf q order code why r → IsRequest q m → ShowsAny order s
    → cancel_reject_fields r ∷ [] ≡ law.refused_request m s code why
reject-told q None code why r m None is asks shows = ap (λ (f : Message). f ∷ []) (reject-written q None code why r m (codes "NONE") (codes "8") is asks refl refl)
reject-told q None code why r m (Some s) is asks shows = absurd shows
reject-told q (Some x) code why r m None is asks shows = absurd shows
reject-told q (Some x) code why r m (Some s) is asks shows =
    ap (λ (f : Message). f ∷ []) (reject-written q (Some x) code why r m s.order (law.status_of s) is asks shows.order
    (status-shown x s shows))
