-- A new order, by its verdict: what the table's step gives.
use Rattle.std.proofs.Common.{◌≡◌, ◌≤◌, ℕ, ◌+◌, Bool, List, [], ◌∷◌, codes, length, map, refl, sym, subst, ap, ◌∙◌}
use Rattle.std.proofs.Common.{arith, decimal, Some}
use Rattle.std.specs.Prelude.{false, Option}
use Rattle.tokens.specs.TokenText.{token_text}
use Rattle.fix_types.specs.declared.application.AppBody.{AppBody}
use Rattle.fix_types.specs.declared.new_order.NewOrder.{NewOrder}
use Rattle.fix_types.specs.NewOrder.{new_order_fields}
use Rattle.fix_types.specs.Application.{body_fields}
use Rattle.order_law.specs.ouch_codec.declared.inbound.Inbound.{Inbound}
use Rattle.order_law.specs.ouch_codec.declared.inbound.enter_order.EnterOrder.{EnterOrder}
use Rattle.order_law.specs.ouch_codec.Inbound.{inbound_bytes}
use Rattle.order_law.specs.Asks.{Standing}
use Rattle.order_law.specs.declared.stage.Stage.TheVariants.{Waiting}
use Rattle.order_law.specs.Headline.{EachWith, Says}
use Rattle.order_law.specs.History.{Asked, Terms, terms_of}
use Rattle.order_machine.specs.fix_fields.Field.{Message}
use Rattle.order_law.specs.Told as law
use Rattle.order_law.specs.Verdicts.{Accepted, first_row, rows_of_new}
use Rattle.order_machine.specs.Machine.{by_verdict, client_step, entry_of_new, tells, verdict_in}
use Rattle.order_machine.specs.OrderRecord.{OrderRecord, entered, new_asked, shown_as}
use Rattle.order_machine.specs.Table.{GivenToken, TableState, open_count, used_by}
use Rattle.order_table.specs.Held.{Held}
use Rattle.to_market.specs.declared.refusal.Refusal.{Refusal}
use Rattle.to_market.specs.NewAsks.{asked_with, enter_bytes}
use Rattle.to_market.specs.PortsSeen.{port_seen}
use Rattle.to_market.specs.Refusals.{code_of, refused_by, refusal_text}
use Rattle.to_market.specs.TermsSeen.{terms_seen}
use Rattle.to_market.specs.declared.sender.Sender.{Sender}
use Rattle.to_market.specs.NewTurns.{IsEntering, StandsAfter, entry_after, numbered_on, with_order}
use Rattle.to_market.specs.Verdict.{AsksNext, verdict_of}

module _ (s : TableState) (order_ids exec_ids : ℕ) (sender : Sender) (held : Held) (used : Bool) (d : NewOrder) (after : StandsAfter s order_ids exec_ids sender held d.cl_ord_id used) where
  abbrev m : Message
  m = new_order_fields d

  abbrev client : ℕ
  client = sender.client

  same_orders : s.orders ≡ held.orders
  same_orders = after.stands.orders

  same_tokens : s.tokens ≡ held.tokens
  same_tokens = after.stands.tokens

  -- a state judges it as its table does
  pub verdict-in : verdict_in s client (port_seen sender.port) m ≡ verdict_of sender held used d
  verdict-in =
      ap (λ (u : Bool). first_row (rows_of_new u (port_seen sender.port) (open_count s.orders client)
      (length s.tokens) m)) after.stands.used
      ∙ ap (λ (os : List OrderRecord). first_row
      (rows_of_new used (port_seen sender.port) (open_count os client) (length s.tokens) m)) same_orders
      ∙ ap (λ (ts : List GivenToken). first_row
      (rows_of_new used (port_seen sender.port) (open_count held.orders client) (length ts) m)) same_tokens

  -- a row refuses it
  pub refused-in : (row : Refusal) (body : AppBody) → verdict_of sender held used d ≡ refused_by row
      → body_fields body ≡ law.refusing_report (exec_ids + 1) (order_ids + 1) m (code_of row) (refusal_text row)
      → client_step s client m (port_seen sender.port)
      ≡ tells (numbered_on client m s) client (body_fields body ∷ []) []
  refused-in row body verdict is_body =
      ap (by_verdict s client m) (verdict-in ∙ verdict)
      ∙ ap (λ (n : ℕ). tells (numbered_on client m s) client
      (law.refusing_report (n + 1) (s.order_ids + 1) m (code_of row) (refusal_text row) ∷ []) [])
      after.stands.reports
      ∙ ap (λ (n : ℕ). tells (numbered_on client m s) client
      (law.refusing_report (exec_ids + 1) (n + 1) m (code_of row) (refusal_text row) ∷ []) []) after.numbered
      ∙ ap (λ (b : Message). tells (numbered_on client m s) client (b ∷ []) []) (sym is_body)

  -- as what it is accepted
  same-entry : entry_of_new s client m ≡ entry_after (order_ids + 1) sender held d
  same-entry =
      ap (λ (n : ℕ). record {
        client = client;
        message = m;
        order = decimal (n + 1);
        token =
            Some (length s.tokens + 1);
      }) after.numbered
      ∙ ap (λ (ts : List GivenToken). record {
        client = client;
        message = m;
        order = decimal (order_ids + 1);
        token =
            Some (length ts + 1);
      }) same_tokens

  -- the token that it is given
  abbrev given_to : ℕ → List ℕ → ℕ → GivenToken
  given_to port token order_id = record { port = port; text = token; order = decimal order_id; is_replacement = false }

  port-is : (terms_of s.terms client).port ≡ sender.terms.port
  port-is = ap (λ (t : Terms). t.port) after.stands.terms

  same-given : given_to (terms_of s.terms client).port (token_text (length s.tokens + 1)) (s.order_ids + 1)
      ≡ given_to sender.terms.port (token_text (length held.tokens + 1)) (order_ids + 1)
  same-given =
      ap (λ (n : ℕ). given_to n (token_text (length s.tokens + 1)) (s.order_ids + 1)) port-is
      ∙ ap (λ (ts : List GivenToken). given_to sender.terms.port (token_text (length ts + 1)) (s.order_ids + 1))
      same_tokens
      ∙ ap (λ (n : ℕ). given_to sender.terms.port (token_text (length held.tokens + 1)) (n + 1)) after.numbered

  -- it is accepted
  accepted-gives : (o : OrderRecord) (given : GivenToken) (b : Message)
      → verdict_in s client (port_seen sender.port) m ≡ Accepted
      → o ≡ entered (entry_of_new s client m) → given
      ≡ given_to (terms_of s.terms client).port (token_text (length s.tokens + 1)) (s.order_ids + 1)
      → b ≡ law.report (s.exec_ids + 1) (law.plain (codes "A")) (shown_as (entered (entry_of_new s client m)))
      → client_step s client m (port_seen sender.port)
      ≡ tells (with_order (used_by client m) o given s) client (b ∷ [])
      (new_asked s.terms (entry_of_new s client m) Waiting)
  accepted-gives o given b verdict is_order is_given is_body =
      ap (by_verdict s client m) verdict ∙ rw (is_order, is_given, is_body) refl

  pub entering-in : (enter : EnterOrder) (o : OrderRecord) (given : GivenToken) (bodies : List AppBody)
      (asks : List Inbound) → verdict_in s client (port_seen sender.port) m ≡ Accepted
      → AsksNext sender held d enter → o ≡ entered (entry_after (order_ids + 1) sender held d)
      → given ≡ given_to sender.terms.port enter.token (order_ids + 1)
      → map body_fields bodies ≡ law.report (exec_ids + 1) (law.plain (codes "A")) (shown_as o) ∷ []
      → ((standing : Standing) (order_of : List ℕ → Option ℕ) (asked : Asked)
      → Says standing order_of asked (enter_bytes enter)
      → EachWith (Says standing order_of) (asked ∷ []) (map inbound_bytes asks))
      → length asks ≤ 5
      → IsEntering s sender m (order_ids + 1) o given bodies asks
  entering-in enter o given bodies asks verdict next is_order is_given is_told says few =
      let of_state : o ≡ entered (entry_of_new s client m) = is_order ∙ ap entered (sym same-entry) in
      let pending : Message = law.report (exec_ids + 1) (law.plain (codes "A")) (shown_as o) in
      record {
        asked = new_asked s.terms (entry_of_new s client m) Waiting;
        of_asked = (ap (λ (n : ℕ). decimal (n + 1)) after.numbered, tt);
        gives = accepted-gives o given pending verdict of_state
            (is_given ∙ ap (λ (t : List ℕ). given_to sender.terms.port t (order_ids + 1)) next.token ∙ sym same-given)
            (ap (λ (x : OrderRecord). law.report (exec_ids + 1) (law.plain (codes "A")) (shown_as x)) of_state
            ∙ ap (λ (n : ℕ). law.report (n + 1) (law.plain (codes "A")) (shown_as (entered (entry_of_new s client m)))) (sym after.stands.reports))
            ∙ ap (λ (bs : List Message). tells (with_order (used_by client m) o given s) client bs
            (new_asked s.terms (entry_of_new s client m) Waiting)) (sym is_told);
        says = λ order_of finds. says (terms_of s.terms client).standing order_of _ (next-says order_of);
        few = few;
        one_token = subst (λ (x : OrderRecord). length x.tokens ≤ 1) (sym is_order) (omega arith);
        none_pending = ap (λ (x : OrderRecord). x.replaces) is_order;
      }
    where
      next-says : (order_of : List ℕ → Option ℕ)
          → Says (terms_of s.terms client).standing order_of
          (asked_with (decimal (s.order_ids + 1)) (token_text (length s.tokens + 1))
          (terms_of s.terms client).capacity m) (enter_bytes enter)
      next-says order_of =
          subst (λ (t : Terms). Says t.standing order_of
          (asked_with (decimal (s.order_ids + 1)) (token_text (length s.tokens + 1)) t.capacity m)
          (enter_bytes enter)) (sym after.stands.terms)
          (subst (λ (ts : List GivenToken). Says (terms_seen sender.terms).standing order_of
          (asked_with (decimal (s.order_ids + 1)) (token_text (length ts + 1)) (terms_seen sender.terms).capacity m)
          (enter_bytes enter)) (sym same_tokens)
          (next.says (decimal (s.order_ids + 1)) order_of))
