-- What a cancel or a replace makes of a table, as one answer. (FIX 4.4 Volume 4, "Order Cancel Request", "Order
-- Cancel/Replace Request".)
use Rattle.std.specs.Prelude.{◌≡◌, ◌≤◌, ◌<◌, ℕ, ◌+◌, Bool, true, List, [], ◌∷◌, ◌++◌, Option, Some, decimal, length}
use Rattle.std.specs.Prelude.{map}
use Rattle.std.specs.List.{count_by}
use Rattle.fix_types.specs.declared.application.AppBody.{AppBody}
use Rattle.fix_types.specs.declared.cancel_request.CancelRequest.{CancelRequest}
use Rattle.fix_types.specs.declared.replace_request.ReplaceRequest.{ReplaceRequest}
use Rattle.fix_types.specs.CancelRequest.{cancel_request_fields}
use Rattle.fix_types.specs.ReplaceRequest.{replace_request_fields}
use Rattle.fix_types.specs.Application.{body_fields}
use Rattle.order_law.specs.ouch_codec.declared.inbound.Inbound.{Inbound}
use Rattle.order_law.specs.ouch_codec.Inbound.{inbound_bytes}
use Rattle.order_law.specs.Headline.{Each, EachWith, Says}
use Rattle.order_law.specs.History.{Asked, terms_of}
use Rattle.order_machine.specs.fix_fields.Field.{Message, text}
use Rattle.order_machine.specs.Machine.{client_step, tells, with_used}
use Rattle.order_machine.specs.OrderRecord.{OrderRecord, at}
use Rattle.order_machine.specs.Runs.{Finds}
use Rattle.order_machine.specs.Table.{GivenToken, TableState, record_by_id, has_used, is_replacement_of, put}
use Rattle.orders.specs.declared.requests.Cancelling.{Cancelling}
use Rattle.orders.specs.declared.requests.Replacing.{Replacing}
use Rattle.orders.specs.Seen.{cancel_seen, replace_seen}
use Rattle.order_table.specs.Held.{Held}
use Rattle.to_market.specs.PortsSeen.{port_seen}
use Rattle.to_market.specs.TermsSeen.{terms_seen}
use Rattle.to_market.specs.declared.sender.Sender.{Sender}
use Rattle.to_market.specs.declared.turns.CancelTurn.{CancelTurn}
use Rattle.to_market.specs.declared.turns.CancelTurn.TheVariants as cancels
use Rattle.to_market.specs.declared.turns.ReplaceTurn.{ReplaceTurn}
use Rattle.to_market.specs.declared.turns.ReplaceTurn.TheVariants as replaces

-- A state with this table, after so many reports, to which the sender's message with this ClOrdID (11) comes: the id is
-- used or isn't.
pub record Stands (s : TableState) (issued : ℕ) (sender : Sender) (held : Held) (id : List ℕ)
    (is_used : Bool) : Type 0 where
  pub orders : s.orders ≡ held.orders
  pub tokens : s.tokens ≡ held.tokens
  pub reports : s.exec_ids ≡ issued
  pub terms : terms_of s.terms sender.client ≡ terms_seen sender.terms
  pub used : has_used s.used sender.client id ≡ is_used

-- it is refused in this body, and nothing else comes of it but that its id is used
abbrev pub IsRefused : TableState → Sender → Message → AppBody → Type 0
IsRefused s sender m body = client_step s sender.client m (port_seen sender.port)
    ≡ tells (with_used sender.client m s) sender.client (body_fields body ∷ []) []

-- all of it is asked of the order with this OrderID
abbrev pub AreOf : ℕ → List Asked → Type 0
AreOf order_id asked = Each (λ (a : Asked). a.order ≡ decimal order_id) asked

-- the messages say all that is asked, where each token leads to its order
abbrev pub SaysAll : TableState → Sender → List Asked → List Inbound → Type 0
SaysAll s sender asked asks =
    (order_of : List ℕ → Option ℕ) → Each (Finds order_of) asked
    → EachWith (Says (terms_of s.terms sender.client).standing order_of) asked (map inbound_bytes asks)

-- a cancel of this order is pending, and its client is told so
pub record IsCancelling (s : TableState) (sender : Sender) (m : Message) (order_id : ℕ) (c : Cancelling)
    (body : AppBody) (asks : List Inbound) : Type 0 where
  pub order : OrderRecord
  pub named : record_by_id s sender.client (text 41 m) ≡ Some order
  pub of_order : order.new.order ≡ decimal order_id
  pub asked : List Asked
  pub of_asked : AreOf order_id asked
  pub gives : client_step s sender.client m (port_seen sender.port)
      ≡ tells (record (with_used sender.client m s) {
        orders = put (at order order.replaces (Some (cancel_seen order.new.client order_id c))) s.orders;
        exec_ids = s.exec_ids + 1;
      }) sender.client (body_fields body ∷ []) asked
  pub says : SaysAll s sender asked asks
  pub few : length asks ≤ 5

-- a replace of this order is pending, under a token of its own, and its client is told so
pub record IsReplacing (s : TableState) (sender : Sender) (m : Message) (order_id : ℕ) (r : Replacing)
    (given : GivenToken) (body : AppBody) (asks : List Inbound) : Type 0 where
  pub order : OrderRecord
  pub named : record_by_id s sender.client (text 41 m) ≡ Some order
  pub of_order : order.new.order ≡ decimal order_id
  pub room : count_by (is_replacement_of (decimal order_id)) s.tokens < 65_535
  pub few_pending : length order.replaces < 4
  pub of_given : given.order ≡ decimal order_id
  pub is_replacement : given.is_replacement ≡ true
  pub asked : List Asked
  pub of_asked : AreOf order_id asked
  pub gives : client_step s sender.client m (port_seen sender.port)
      ≡ tells (record (with_used sender.client m s) {
        orders = put (at order (order.replaces ++ replace_seen order.new.client order_id r ∷ []) order.cancel) s.orders;
        tokens = given ∷ s.tokens;
        exec_ids = s.exec_ids + 1;
      }) sender.client (body_fields body ∷ []) asked
  pub says : SaysAll s sender asked asks
  pub few : length asks ≤ 5

abbrev pub IsCancelTurn : TableState → Sender → Message → CancelTurn → Type 0
IsCancelTurn s sender m (cancels.Refused body) = IsRefused s sender m body
IsCancelTurn s sender m (cancels.Accepted order_id c body asks) = IsCancelling s sender m order_id c body asks.items

abbrev pub IsReplaceTurn : TableState → Sender → Message → ReplaceTurn → Type 0
IsReplaceTurn s sender m (replaces.Refused body) = IsRefused s sender m body
IsReplaceTurn s sender m
    (replaces.Accepted order_id r given body asks) = IsReplacing s sender m order_id r given body asks.items

-- of every state that stands so
abbrev pub StepsCancel : ℕ → Sender → Held → Bool → CancelRequest → CancelTurn → Type 0
StepsCancel issued sender held is_used request turn =
    (s : TableState) → Stands s issued sender held (text 11 (cancel_request_fields request)) is_used
    → IsCancelTurn s sender (cancel_request_fields request) turn

abbrev pub StepsReplace : ℕ → Sender → Held → Bool → ReplaceRequest → ReplaceTurn → Type 0
StepsReplace issued sender held is_used request turn =
    (s : TableState) → Stands s issued sender held (text 11 (replace_request_fields request)) is_used
    → IsReplaceTurn s sender (replace_request_fields request) turn
