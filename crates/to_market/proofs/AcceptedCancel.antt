-- What an accepted cancel comes to.
use Rattle.std.proofs.Common.{◌≡◌, ◌≤◌, ℕ, ◌+◌, List, [], ◌∷◌, length, map, refl, sym, ap, ◌∙◌, decimal, Some, None}
use Rattle.fix_types.specs.declared.application.AppBody.{AppBody}
use Rattle.fix_types.specs.declared.cancel_request.CancelRequest.{CancelRequest}
use Rattle.fix_types.specs.CancelRequest.{cancel_request_fields}
use Rattle.fix_types.specs.Application.{body_fields}
use Rattle.order_law.specs.ouch_codec.declared.inbound.Inbound.{Inbound}
use Rattle.order_law.specs.History.{Entry}
use Rattle.order_machine.specs.fix_fields.Field.{Message}
use Rattle.order_law.specs.Told.{accepted_request}
use Rattle.order_machine.specs.Machine.{tells, with_used}
use Rattle.order_machine.specs.OrderRecord as record_of
use Rattle.order_machine.specs.OrderRecord.{OrderRecord, at, live_token, replacements, shown_as}
use Rattle.order_machine.specs.Table.{TableState, put}
use Rattle.orders.specs.declared.requests.Cancelling.{Cancelling}
use Rattle.orders.specs.Seen.{cancel_seen}
use Rattle.to_market.specs.PortsSeen.{port_seen}
use Rattle.to_market.specs.RequestAsks.{cancel_asked_with}
use Rattle.to_market.specs.declared.sender.Sender.{Sender}
use Rattle.to_market.specs.Asked.{IsAccepted, cancels_asked}
use Rattle.to_market.specs.Turns.{AreOf, IsCancelling, SaysAll}
use Rattle.to_market.proofs.Standing.{owner}
use Rattle.to_market.proofs.Steps.{accepted-on}

-- as what a cancel is accepted
abbrev pub entry_of : ℕ → CancelRequest → OrderRecord → Entry
entry_of client r o = record { client = client; message = cancel_request_fields r; order = o.new.order; token = None }

-- what the order keeps of it is what the law keeps
kept-as : (client owner order_id : ℕ) (order : List ℕ) (r : CancelRequest) (c : Cancelling) (tokens : List (List ℕ))
    → owner ≡ client → order ≡ decimal order_id → c.message ≡ r → c.tokens.items ≡ tokens
    → ◌≡◌ {A = record_of.Cancelling} (record {
      request =
          record { client = client; message = cancel_request_fields r; order = order; token = None };
      tokens = tokens;
    })
    (cancel_seen owner order_id c)
kept-as client owner order_id order r c tokens is_owner of_order is_message is_tokens =
    let by_owner : ◌≡◌ {A = record_of.Cancelling}
    (record {
      request = record { client = client; message = cancel_request_fields r; order = order; token = None };
      tokens = tokens;
    }) (record {
      request = record
          { client = owner; message = cancel_request_fields r; order = order; token = None };
      tokens = tokens;
    }) =
    ap (λ (n : ℕ). record {
      request = record {
        client = n;
        message = cancel_request_fields r;
        order = order;
        token =
            None;
      };
      tokens = tokens;
    }) (sym is_owner) in
    let by_order : ◌≡◌ {A = record_of.Cancelling}
    (record {
      request = record { client = owner; message = cancel_request_fields r; order = order; token = None };
      tokens = tokens;
    }) (record {
      request = record
          { client = owner; message = cancel_request_fields r; order = decimal order_id; token = None };
      tokens =
          tokens;
    }) =
    ap (λ (k : List ℕ). record {
      request = record
          { client = owner; message = cancel_request_fields r; order = k; token = None };
      tokens = tokens;
    }) of_order in
    let by_message : ◌≡◌ {A = record_of.Cancelling}
    (record {
      request = record {
        client = owner;
        message = cancel_request_fields r;
        order =
            decimal order_id;
        token = None;
      };
      tokens = tokens;
    })
    (record {
      request = record {
        client = owner;
        message = cancel_request_fields c.message;
        order =
            decimal order_id;
        token = None;
      };
      tokens = tokens;
    }) =
    ap (λ (x : CancelRequest). record {
      request =
          record { client = owner; message = cancel_request_fields x; order = decimal order_id; token = None };
      tokens =
          tokens;
    }) (sym is_message) in
    let by_tokens : ◌≡◌ {A = record_of.Cancelling}
    (record {
      request = record {
        client = owner;
        message = cancel_request_fields c.message;
        order =
            decimal order_id;
        token = None;
      };
      tokens = tokens;
    }) (cancel_seen owner order_id c) =
    ap (λ (ts : List (List ℕ)). record {
      request =
          record { client = owner; message = cancel_request_fields c.message; order = decimal order_id; token = None };
      tokens = ts;
    }) (sym is_tokens) in
    by_owner ∙ by_order ∙ by_message ∙ by_tokens

-- each Cancel Order is asked of the order
cancels-of : (order : List ℕ) (order_id : ℕ) (m : Message) (tokens : List (List ℕ)) → order ≡ decimal order_id
    → AreOf order_id (map (λ token. cancel_asked_with order token m) tokens)
cancels-of order order_id m [] is = tt
cancels-of order order_id m (token ∷ tokens) is = (is, cancels-of order order_id m tokens is)

pub cancelling-in : (s : TableState) (issued : ℕ) (sender : Sender) (r : CancelRequest) (o : OrderRecord) (order_id : ℕ)
    (c : Cancelling) (body : AppBody) (asks : List Inbound)
    → IsAccepted issued sender (cancel_request_fields r) o s → o.new.order ≡ decimal order_id
    → c.message ≡ r → c.tokens.items ≡ live_token o ∷ replacements o.replaces
    → body_fields body ∷ [] ≡ accepted_request (issued + 1) (entry_of sender.client r o) (Some (shown_as o))
    → SaysAll s sender (cancels_asked o (cancel_request_fields r)) asks → length asks ≤ 5
    → IsCancelling s sender (cancel_request_fields r) order_id c body asks
cancelling-in s issued sender r o order_id c body asks is of_order is_message is_tokens is_body says few =
    let m : Message = cancel_request_fields r in
    let client = sender.client in
    let kept = kept-as client o.new.client order_id o.new.order r c (live_token o ∷ replacements o.replaces)
    (owner s client r.orig_cl_ord_id o is.named) of_order is_message is_tokens in
    record {
      order = o;
      named = is.named;
      of_order = of_order;
      asked = cancels_asked o m;
      of_asked = cancels-of o.new.order order_id m (live_token o ∷ replacements o.replaces) of_order;
      gives = accepted-on s client m (port_seen sender.port) o refl is.named is.verdict
          ∙ ap (λ (x : record_of.Cancelling). tells
          (record (with_used client m s) {
            orders = put (at o o.replaces (Some x)) s.orders;
            exec_ids =
                s.exec_ids + 1;
          }) client (accepted_request (s.exec_ids + 1) (entry_of client r o) (Some (shown_as o)))
          (cancels_asked o m)) kept
          ∙ ap (λ (n : ℕ). tells (record (with_used client m s) {
            orders = put (at o o.replaces (Some (cancel_seen o.new.client order_id c))) s.orders;
            exec_ids =
                s.exec_ids + 1;
          }) client (accepted_request (n + 1) (entry_of client r o) (Some (shown_as o)))
          (cancels_asked o m)) is.reports
          ∙ ap (λ (bs : List Message). tells (record
          (with_used client m s) {
            orders = put (at o o.replaces (Some (cancel_seen o.new.client order_id c)))
                s.orders;
            exec_ids = s.exec_ids + 1;
          }) client bs (cancels_asked o m)) (sym is_body);
      says = says;
      few = few;
    }
