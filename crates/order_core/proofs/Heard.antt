-- What a payload comes to, and what is given of it.
use Rattle.std.proofs.Common.{◌≡◌, ℕ, ◌+◌, ◌≤◌, Bool, List, [], ◌∷◌, map, refl, sym, ap, ◌∙◌, subst, Option, Some, None}
use Rattle.std.proofs.Common.{Result, decimal}
use Rattle.std.specs.Prelude.{if◌then◌else◌}
use Rattle.fix_types.specs.declared.application.AppBody.{AppBody}
use Rattle.std.specs.List.{count_by}
use Rattle.fix_types.specs.Application.{body_fields}
use Rattle.to_market.specs.ouch_codec.declared.outbound.Outbound.{Outbound}
use Rattle.to_market.specs.ouch_codec.declared.refusal.DecodeRefusal.{DecodeRefusal}
use Rattle.to_market.specs.order_law.History.{Entry}
use Rattle.to_market.specs.order_law.Life.{is_closed}
use Rattle.to_market.specs.order_law.Reading.{is_report}
use Rattle.to_market.specs.order_law.Told.{told_of_entry}
use Rattle.order_machine.specs.fix_fields.Field.{Message}
use Rattle.order_machine.specs.OrderRecord.{OrderRecord}
use Rattle.order_machine.specs.Table.{GivenToken, TableState, by_number, has_number, put}
use Rattle.order_machine.specs.Machine.{GivenByEvent, market_step, silent}
use Rattle.order_machine.proofs.Executed.{count-more}
use Rattle.order_machine.proofs.FewReports.{few-reports}
use Rattle.order_machine.proofs.Lists.{found-passes}
use Rattle.order_machine.proofs.Texts.{eq-is}
use Rattle.to_market.specs.orders.Changes.{changed_by}
use Rattle.to_market.specs.order_table.Held.{Held}
use Rattle.to_market.proofs.order_table.Counted.{change-new}
use Rattle.market_messages.specs.declared.heard.Heard.{Heard}
use Rattle.market_messages.specs.Turns.{OrderIsTold}
use Rattle.order_core.specs.declared.ledger_turns.ChangedOrder.{ChangedOrder}
use Rattle.order_core.specs.declared.ledger_turns.MarketTurn.{MarketTurn}
use Rattle.order_core.specs.LedgerMeets.{ChangesAny, ChangesOrder, GivesMarket}
use Rattle.order_core.specs.Seen.{client_seen, tells_report}

-- where nothing comes of it
pub silent-meets : (old : TableState) (port : ℕ) (m : Result Outbound DecodeRefusal) (turn : MarketTurn)
    → turn.client ≡ None → turn.bodies.items ≡ [] → market_step old port m ≡ silent old
    → GivesMarket (market_step old port m) turn old
silent-meets old port m turn nobody nothing is = record {
  state = ap (λ (g : GivenByEvent). g.state) (sym is);
  client = ap client_seen nobody ∙ ap (λ (g : GivenByEvent). g.client) (sym is);
  bodies = ap (map body_fields) nothing ∙ ap (λ (g : GivenByEvent). g.bodies) (sym is);
  fault = ap (λ (g : GivenByEvent). g.fault) is;
}

pub silent-changes : (old : TableState) (port : ℕ) (m : Result Outbound DecodeRefusal) (changed : Option ChangedOrder)
    → changed ≡ None → market_step old port m ≡ silent old → ChangesAny old port m changed
silent-changes old port m changed nothing is =
    subst (λ (x : Option ChangedOrder). ChangesAny old port m x) (sym nothing) (ap (λ (g : GivenByEvent). g.state) is)

-- two of the bodies that are told are reports at most
pub told-few : (s : TableState) (port : ℕ) (m : Result Outbound DecodeRefusal) (order_id client : ℕ)
    (next : List (List ℕ)) (h : Heard) → OrderIsTold s port m order_id client next h
    → count_by is_report (map body_fields h.bodies.items) ≤ 2
told-few s port m order_id client next h told =
    subst (λ (bodies : List Message). count_by is_report bodies ≤ 2) (ap (λ (g : GivenByEvent). g.bodies) told.gives)
    (few-reports s port m)

-- where an order is changed, and its client told
module _ (old : TableState) (port : ℕ) (m : Result Outbound DecodeRefusal) (order_id client : ℕ) (next : List (List ℕ)) (h : Heard) (turn : MarketTurn) (told : OrderIsTold old port m order_id client next h) (was held : Held) (same_orders : was.orders ≡ old.orders) (same_tokens : was.tokens ≡ old.tokens) where
  pub told-meets : ((o : OrderRecord) → by_number old (decimal order_id) ≡ Some o
      → held ≡ record was { orders = put (changed_by h.change o) was.orders })
      → client_seen turn.client ≡ (told_of_entry told.order.new (map body_fields h.bodies.items)).client
      → turn.bodies.items ≡ h.bodies.items
      → GivesMarket (market_step old port m) turn
      (record old {
        orders = held.orders;
        tokens = held.tokens;
        exec_ids =
            old.exec_ids + count_by is_report (map body_fields h.bodies.items);
      })
  told-meets changed of_client same = record {
    state =
        ap (λ (x : Held). record old {
          orders = x.orders;
          tokens = x.tokens;
          exec_ids =
              old.exec_ids + count_by is_report (map body_fields h.bodies.items);
        }) (changed told.order told.found)
        ∙ ap (λ (os : List OrderRecord). record old {
          orders = put (changed_by h.change told.order) os;
          tokens = was.tokens;
          exec_ids =
              old.exec_ids + count_by is_report (map body_fields h.bodies.items);
        }) same_orders
        ∙ ap (λ (ts : List GivenToken). record old {
          orders = put (changed_by h.change told.order) old.orders;
          tokens = ts;
          exec_ids =
              old.exec_ids + count_by is_report (map body_fields h.bodies.items);
        }) same_tokens
        ∙ ap (λ (g : GivenByEvent). g.state) (sym told.gives);
    client = of_client ∙ ap (λ (g : GivenByEvent). g.client) (sym told.gives);
    bodies = ap (map body_fields) same ∙ ap (λ (g : GivenByEvent). g.bodies) (sym told.gives);
    fault = ap (λ (g : GivenByEvent). g.fault) told.gives;
  }

  -- and it is the one that is changed
  pub told-changes : (closed : Bool)
      → ((o : OrderRecord) → by_number old (decimal order_id) ≡ Some o
      → closed ≡ is_closed (changed_by h.change o).stage)
      → ChangesOrder old port m (record { order_id = order_id; is_closed = closed; next = next })
  told-changes closed closes =
      let now = changed_by h.change told.order in
      let same : now.new ≡ told.order.new = change-new h.change told.order in
      let of_order : told.order.new.order ≡ decimal order_id =
      eq-is told.order.new.order (decimal order_id)
      (found-passes (has_number (decimal order_id)) old.orders told.order told.found) in
      let number : now.new.order ≡ decimal order_id = ap (λ (e : Entry). e.order) same ∙ of_order in
      record {
        order = told.order;
        now = now;
        found = told.of_token;
        same = same;
        of_order = number;
        closed = sym (closes told.order told.found);
        next = told.of_replaces;
        orders = ap (λ (g : GivenByEvent). g.state.orders) told.gives;
      }

pub same_order : (o p : OrderRecord) → ◌≡◌ {A = Option OrderRecord} (Some o) (Some p) → o ≡ p
same_order o p e = cc

-- the reports among bodies are those among their fields
pub reports-same : (bs : List AppBody) → count_by tells_report bs ≡ count_by is_report (map body_fields bs)
unfolding tells_report
reports-same [] = refl
reports-same (b ∷ bs) =
    count-more tells_report b bs
    ∙ ap (λ (n : ℕ). (if is_report (body_fields b) then 1 else 0) + n) (reports-same bs)
    ∙ sym (count-more is_report (body_fields b) (map body_fields bs))
