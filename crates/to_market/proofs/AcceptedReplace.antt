-- What an accepted replace comes to.
use Rattle.std.proofs.Common.{◌≡◌, ◌≤◌, ◌<◌, ℕ, ◌+◌, Bool, true, List, [], ◌∷◌, ◌++◌, length, refl, sym, ap, ◌∙◌, subst}
use Rattle.std.proofs.Common.{decimal, Some}
use Rattle.std.specs.List.{count_by}
use Rattle.tokens.specs.TokenText.{token_text}
use Rattle.fix_types.specs.declared.application.AppBody.{AppBody}
use Rattle.fix_types.specs.declared.replace_request.ReplaceRequest.{ReplaceRequest}
use Rattle.fix_types.specs.ReplaceRequest.{replace_request_fields}
use Rattle.fix_types.specs.Application.{body_fields}
use Rattle.order_law.specs.ouch_codec.declared.inbound.Inbound.{Inbound}
use Rattle.order_law.specs.History.{Entry, Terms, terms_of}
use Rattle.order_machine.specs.fix_fields.Field.{Message}
use Rattle.order_law.specs.Told.{accepted_request}
use Rattle.order_machine.specs.Machine.{tells, with_used}
use Rattle.order_machine.specs.OrderRecord.{OrderRecord, at, shown_as}
use Rattle.order_machine.specs.Table.{GivenToken, TableState, is_replacement_of, put}
use Rattle.orders.specs.declared.requests.Replacing.{Replacing}
use Rattle.orders.specs.Seen.{replace_seen}
use Rattle.to_market.specs.PortsSeen.{port_seen}
use Rattle.to_market.specs.declared.sender.Sender.{Sender}
use Rattle.to_market.specs.Asked.{IsAccepted, TakesToken, replaces_asked}
use Rattle.to_market.specs.Turns.{IsReplacing, SaysAll}
use Rattle.to_market.proofs.Standing.{owner}
use Rattle.to_market.proofs.Steps.{accepted-on}

-- as what a replace is accepted, under the token of this number
abbrev pub entry_of : ℕ → ReplaceRequest → OrderRecord → ℕ → Entry
entry_of client r o number = record {
  client = client;
  message = replace_request_fields r;
  order = o.new.order;
  token =
      Some number;
}

-- what the order keeps of it is what the law keeps
kept-as : (client owner order_id number : ℕ) (order : List ℕ) (r : ReplaceRequest) (x : Replacing)
    → owner ≡ client → order ≡ decimal order_id → x.message ≡ r → x.token_number ≡ number
    → ◌≡◌ {A = Entry} (record {
      client = client;
      message = replace_request_fields r;
      order = order;
      token =
          Some number;
    }) (replace_seen owner order_id x)
kept-as client owner order_id number order r x is_owner of_order is_message is_number =
    let by_owner : ◌≡◌ {A = Entry} (record {
      client = client;
      message = replace_request_fields r;
      order = order;
      token =
          Some number;
    }) (record {
      client = owner;
      message = replace_request_fields r;
      order = order;
      token =
          Some number;
    }) =
    ap (λ (n : ℕ). record { client = n; message = replace_request_fields r; order = order; token = Some number })
    (sym is_owner) in
    let by_order : ◌≡◌ {A = Entry} (record {
      client = owner;
      message = replace_request_fields r;
      order = order;
      token =
          Some number;
    }) (record {
      client = owner;
      message = replace_request_fields r;
      order = decimal order_id;
      token =
          Some number;
    }) =
    ap (λ (k : List ℕ). record { client = owner; message = replace_request_fields r; order = k; token = Some number })
    of_order in
    let by_message : ◌≡◌ {A = Entry} (record {
      client = owner;
      message = replace_request_fields r;
      order =
          decimal order_id;
      token = Some number;
    }) (record
    { client = owner; message = replace_request_fields x.message; order = decimal order_id; token = Some number }) =
    ap (λ (y : ReplaceRequest). record {
      client = owner;
      message = replace_request_fields y;
      order =
          decimal order_id;
      token = Some number;
    }) (sym is_message) in
    let by_number : ◌≡◌ {A = Entry} (record {
      client = owner;
      message = replace_request_fields x.message;
      order =
          decimal order_id;
      token = Some number;
    }) (replace_seen owner order_id x) =
    ap (λ (n : ℕ). record {
      client = owner;
      message = replace_request_fields x.message;
      order =
          decimal order_id;
      token = Some n;
    }) (sym is_number) in
    by_owner ∙ by_order ∙ by_message ∙ by_number

-- the token that it takes is the one that the law gives it
given-as : (port number order_id : ℕ) (order : List ℕ) (g : GivenToken)
    → g.port ≡ port → g.text ≡ token_text number → g.order ≡ decimal order_id → order ≡ decimal order_id
    → g.is_replacement ≡ true
    → ◌≡◌ {A = GivenToken} (record { port = port; text = token_text number; order = order; is_replacement = true }) g
given-as port number order_id order g is_port is_text is_order of_order is_so =
    let by_port : ◌≡◌ {A = GivenToken} (record
    { port = port; text = token_text number; order = order; is_replacement = true })
    (record { port = g.port; text = token_text number; order = order; is_replacement = true }) =
    ap (λ (n : ℕ). record { port = n; text = token_text number; order = order; is_replacement = true }) (sym is_port) in
    let by_text : ◌≡◌ {A = GivenToken} (record
    { port = g.port; text = token_text number; order = order; is_replacement = true })
    (record { port = g.port; text = g.text; order = order; is_replacement = true }) =
    ap (λ (t : List ℕ). record { port = g.port; text = t; order = order; is_replacement = true }) (sym is_text) in
    let by_order : ◌≡◌ {A = GivenToken} (record { port = g.port; text = g.text; order = order; is_replacement = true })
    (record { port = g.port; text = g.text; order = g.order; is_replacement = true }) =
    ap (λ (k : List ℕ). record { port = g.port; text = g.text; order = k; is_replacement = true })
    (of_order ∙ sym is_order) in
    let by_kind : ◌≡◌ {A = GivenToken} (record { port = g.port; text = g.text; order = g.order; is_replacement = true })
    g =
    ap (λ (b : Bool). record { port = g.port; text = g.text; order = g.order; is_replacement = b }) (sym is_so) in
    by_port ∙ by_text ∙ by_order ∙ by_kind

pub replacing-in : (s : TableState) (issued number : ℕ) (sender : Sender) (r : ReplaceRequest) (o : OrderRecord)
    (order_id : ℕ) (x : Replacing) (g : GivenToken) (token : List ℕ) (body : AppBody) (asks : List Inbound)
    → IsAccepted issued sender (replace_request_fields r) o s → TakesToken number sender o s
    → o.new.order ≡ decimal order_id
    → x.message ≡ r → x.token_number ≡ number + 1 → token ≡ token_text (number + 1)
    → g.port ≡ sender.terms.port → g.text ≡ token → g.order ≡ decimal order_id → g.is_replacement ≡ true
    → body_fields body ∷ [] ≡ accepted_request (issued + 1) (entry_of sender.client r o (number + 1))
    (Some (shown_as o))
    → SaysAll s sender (replaces_asked o token (replace_request_fields r)) asks → length asks ≤ 5
    → IsReplacing s sender (replace_request_fields r) order_id x g body asks
replacing-in s issued number sender r o order_id x g token body asks is takes of_order is_message is_number is_token
    g_port g_text g_order g_kind is_body says few =
    let m : Message = replace_request_fields r in
    let client = sender.client in
    let next : length s.tokens + 1 ≡ number + 1 = ap (λ (n : ℕ). n + 1) takes.tokens in
    let kept = kept-as client o.new.client order_id (number + 1) o.new.order r x
    (owner s client r.orig_cl_ord_id o is.named) of_order is_message is_number in
    let given = given-as (terms_of s.terms client).port (number + 1) order_id o.new.order g
    (g_port ∙ ap (λ (t : Terms). t.port) (sym takes.terms)) (g_text ∙ is_token) g_order of_order g_kind in
    record {
      order = o;
      named = is.named;
      of_order = of_order;
      room = subst (λ (k : List ℕ). count_by (is_replacement_of k) s.tokens < 65_535) of_order takes.room;
      few_pending = takes.few;
      of_given = g_order;
      is_replacement = g_kind;
      asked = replaces_asked o token m;
      of_asked = (of_order, tt);
      gives = accepted-on s client m (port_seen sender.port) o refl is.named is.verdict
          ∙ ap (λ (n : ℕ). tells (record (with_used client m s) {
            orders = put (at o (o.replaces ++ entry_of client r o n ∷ []) o.cancel) s.orders;
            tokens =
                record {
                  port = (terms_of s.terms client).port;
                  text = token_text n;
                  order = o.new.order;
                  is_replacement =
                      true;
                } ∷ s.tokens;
            exec_ids = s.exec_ids + 1;
          }) client
          (accepted_request (s.exec_ids + 1) (entry_of client r o n) (Some (shown_as o)))
          (replaces_asked o (token_text n) m)) next
          ∙ ap (λ (e : Entry). tells (record (with_used client m s) {
            orders = put (at o (o.replaces ++ e ∷ []) o.cancel) s.orders;
            tokens =
                record {
                  port = (terms_of s.terms client).port;
                  text = token_text (number + 1);
                  order =
                      o.new.order;
                  is_replacement = true;
                } ∷ s.tokens;
            exec_ids = s.exec_ids + 1;
          }) client
          (accepted_request (s.exec_ids + 1) (entry_of client r o (number + 1)) (Some (shown_as o)))
          (replaces_asked o (token_text (number + 1)) m)) kept
          ∙ ap (λ (t : GivenToken). tells (record (with_used client m s) {
            orders = put (at o (o.replaces ++ replace_seen o.new.client order_id x ∷ []) o.cancel) s.orders;
            tokens
                = t ∷ s.tokens;
            exec_ids = s.exec_ids + 1;
          }) client
          (accepted_request (s.exec_ids + 1) (entry_of client r o (number + 1)) (Some (shown_as o)))
          (replaces_asked o (token_text (number + 1)) m)) given
          ∙ ap (λ (t : List ℕ). tells (record (with_used client m s) {
            orders = put (at o (o.replaces ++ replace_seen o.new.client order_id x ∷ []) o.cancel) s.orders;
            tokens
                = g ∷ s.tokens;
            exec_ids = s.exec_ids + 1;
          }) client
          (accepted_request (s.exec_ids + 1) (entry_of client r o (number + 1)) (Some (shown_as o)))
          (replaces_asked o t m)) (sym is_token)
          ∙ ap (λ (n : ℕ). tells (record (with_used client m s) {
            orders = put (at o (o.replaces ++ replace_seen o.new.client order_id x ∷ []) o.cancel) s.orders;
            tokens
                = g ∷ s.tokens;
            exec_ids = s.exec_ids + 1;
          }) client
          (accepted_request (n + 1) (entry_of client r o (number + 1)) (Some (shown_as o)))
          (replaces_asked o token m)) is.reports
          ∙ ap (λ (bs : List Message). tells (record
          (with_used client m s) {
            orders = put (at o
                (o.replaces ++ replace_seen o.new.client order_id x ∷ []) o.cancel) s.orders;
            tokens =
                g ∷ s.tokens;
            exec_ids = s.exec_ids + 1;
          }) client bs (replaces_asked o token m)) (sym is_body);
      says = says;
      few = few;
    }
