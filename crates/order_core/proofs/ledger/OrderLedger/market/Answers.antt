use Rattle.std.proofs.Common.{◌≡◌, ◌+◌, ◌≤◌, ℕ, List, [], length, map, refl, sym, subst, ap, ◌∙◌, arith, None, Some}
use Rattle.std.specs.List.{count_by}
use Rattle.fix_types.specs.declared.application.AppBody.{AppBody}
use Rattle.fix_types.specs.Application.{body_fields}
use Rattle.to_market.specs.order_law.Reading.{is_report}
use Rattle.to_market.specs.order_law.Told.{told_of_entry}
use Rattle.order_machine.specs.Machine.{market_step}
use Rattle.order_machine.specs.Table.{TableState}
use Rattle.to_market.specs.orders.Changes.{Fits}
use Rattle.to_market.specs.order_table.Held.{Held}
use Rattle.market_messages.specs.declared.judged.Judged.{Judged}
use Rattle.market_messages.specs.declared.judged.Judged.TheVariants.{Faulty, Silent}
use Rattle.market_messages.specs.Turns.{IsJudged, OrderIsTold}
use Rattle.order_core.specs.declared.ledger_turns.MarketTurn.{MarketTurn}
use Rattle.order_core.specs.LedgerMeets.{ChangesOrder, GivesMarket}
use Rattle.order_core.specs.Seen.{client_seen, tells_report}
use Rattle.order_core.specs.LedgerState.{clients, ledger_numbers}
use Rattle.order_core.proofs.Heard.{reports-same, same_order, silent-changes, silent-meets, told-changes, told-few}
use Rattle.order_core.proofs.Heard.{told-meets}
use Rattle.order_core.proofs.Stepped.{now-is, table_of}
use Rattle.order_core.proofs.ledger.OrderLedger.market.Goals as goal

pub apply-requires : goal.apply-requires
apply-requires g c = λ o here.
    let told : OrderIsTold (table_of c.self.inside.terms.items c.self.inside.table c.self.inside.used
    c.self.inside.order_ids c.self.inside.exec_ids) c.args.port c.args.heard.now c.in-Told.order_id c.in-Told.client
    c.in-Told.next c.in-Told.heard =
    subst (λ (j : Judged). IsJudged (table_of c.self.inside.terms.items c.self.inside.table c.self.inside.used
    c.self.inside.order_ids c.self.inside.exec_ids) c.args.port c.args.heard.now j) c.in-Told.is
    (c.in_ok-hear.ensures (table_of c.self.inside.terms.items c.self.inside.table c.self.inside.used
    c.self.inside.order_ids c.self.inside.exec_ids) refl refl refl) in
    subst (Fits c.in-Told.heard.change) (same_order told.order o (sym told.found ∙ here)) told.fits

pub returns-in-Silent-clause-meets : goal.returns-in-Silent-clause-meets
returns-in-Silent-clause-meets g c =
    let is : IsJudged (table_of c.self.inside.terms.items c.self.inside.table c.self.inside.used c.self.inside.order_ids
    c.self.inside.exec_ids) c.args.port c.args.heard.now Silent =
    subst (λ (j : Judged). IsJudged (table_of c.self.inside.terms.items c.self.inside.table c.self.inside.used
    c.self.inside.order_ids c.self.inside.exec_ids) c.args.port c.args.heard.now j) c.in-Silent.is
    (c.in_ok-hear.ensures (table_of c.self.inside.terms.items c.self.inside.table c.self.inside.used
    c.self.inside.order_ids c.self.inside.exec_ids) refl refl refl) in
    silent-meets c.args.self.now.now c.args.port c.args.heard.now c.nothing.result c.nothing.ensures.client
    c.nothing.ensures.bodies
    (subst (λ (s : TableState). IsJudged s c.args.port c.args.heard.now Silent) (now-is c.self.view_is) is)

pub returns-in-Faulty-clause-meets : goal.returns-in-Faulty-clause-meets
returns-in-Faulty-clause-meets g c =
    let is : IsJudged (table_of c.self.inside.terms.items c.self.inside.table c.self.inside.used c.self.inside.order_ids
    c.self.inside.exec_ids) c.args.port c.args.heard.now (Faulty c.in-Faulty.fault) =
    subst (λ (j : Judged). IsJudged (table_of c.self.inside.terms.items c.self.inside.table c.self.inside.used
    c.self.inside.order_ids c.self.inside.exec_ids) c.args.port c.args.heard.now j) c.in-Faulty.is
    (c.in_ok-hear.ensures (table_of c.self.inside.terms.items c.self.inside.table c.self.inside.used
    c.self.inside.order_ids c.self.inside.exec_ids) refl refl refl) in
    subst (λ (s : TableState). IsJudged s c.args.port c.args.heard.now (Faulty c.in-Faulty.fault))
    (now-is c.self.view_is) is

pub returns-in_ok-is_closed-in-Told-clause-meets : goal.returns-in_ok-is_closed-in-Told-clause-meets
returns-in_ok-is_closed-in-Told-clause-meets g c =
    let told : OrderIsTold (table_of c.self.inside.terms.items c.self.inside.table c.self.inside.used
    c.self.inside.order_ids c.self.inside.exec_ids) c.args.port c.args.heard.now c.in-Told.order_id c.in-Told.client
    c.in-Told.next c.in-Told.heard =
    subst (λ (j : Judged). IsJudged (table_of c.self.inside.terms.items c.self.inside.table c.self.inside.used
    c.self.inside.order_ids c.self.inside.exec_ids) c.args.port c.args.heard.now j) c.in-Told.is
    (c.in_ok-hear.ensures (table_of c.self.inside.terms.items c.self.inside.table c.self.inside.used
    c.self.inside.order_ids c.self.inside.exec_ids) refl refl refl) in
    let turn : MarketTurn = record {
      client = c.told_client-client.result;
      bodies = c.in-Told.heard.bodies;
      changed =
          Some (record {
            order_id = c.in-Told.order_id;
            is_closed = c.in_ok-is_closed-in-Told.is_closed;
            next =
                c.in-Told.next;
          });
    } in
    let here = told-meets (table_of c.self.inside.terms.items c.self.inside.table c.self.inside.used
    c.self.inside.order_ids c.self.inside.exec_ids) c.args.port c.args.heard.now c.in-Told.order_id c.in-Told.client
    c.in-Told.next c.in-Told.heard turn told c.self.inside.table c.apply.new.self refl refl
    (λ o found. c.in_ok-is_closed-in-Told.ensures.changed o found)
    (subst (λ (bs : List AppBody). client_seen c.told_client-client.result
    ≡ (told_of_entry told.order.new (map body_fields bs)).client) c.deref-in-Told.ensures.value
    (c.told_client-client.ensures.seen told.order.new told.of_client)) refl in
    let count : c.report_count-reports.result ≡ count_by is_report (map body_fields c.in-Told.heard.bodies.items) =
    c.report_count-reports.ensures.count ∙ ap (count_by tells_report) c.deref.ensures.value
    ∙ reports-same c.in-Told.heard.bodies.items in
    subst (λ (s : TableState). GivesMarket (market_step s c.args.port c.args.heard.now) turn
    (table_of c.self.inside.terms.items c.apply.new.self c.self.inside.used c.self.inside.order_ids
    (c.self.inside.exec_ids + c.report_count-reports.result))) (now-is c.self.view_is)
    (subst (λ (n : ℕ). GivesMarket (market_step
    (table_of c.self.inside.terms.items c.self.inside.table c.self.inside.used c.self.inside.order_ids
    c.self.inside.exec_ids) c.args.port c.args.heard.now) turn
    (table_of c.self.inside.terms.items c.apply.new.self c.self.inside.used c.self.inside.order_ids
    (c.self.inside.exec_ids + n))) (sym count) here)

pub returns-in_ok-is_closed-in-Told-clause-keeps : goal.returns-in_ok-is_closed-in-Told-clause-keeps
returns-in_ok-is_closed-in-Told-clause-keeps g c =
    let told : OrderIsTold (table_of c.self.inside.terms.items c.self.inside.table c.self.inside.used
    c.self.inside.order_ids c.self.inside.exec_ids) c.args.port c.args.heard.now c.in-Told.order_id c.in-Told.client
    c.in-Told.next c.in-Told.heard =
    subst (λ (j : Judged). IsJudged (table_of c.self.inside.terms.items c.self.inside.table c.self.inside.used
    c.self.inside.order_ids c.self.inside.exec_ids) c.args.port c.args.heard.now j) c.in-Told.is
    (c.in_ok-hear.ensures (table_of c.self.inside.terms.items c.self.inside.table c.self.inside.used
    c.self.inside.order_ids c.self.inside.exec_ids) refl refl refl) in
    let tokens : length c.apply.new.self.tokens ≡ length c.self.inside.table.tokens =
    ap (λ (h : Held). length h.tokens) (c.in_ok-is_closed-in-Told.ensures.changed told.order told.found) in
    let count : c.report_count-reports.result ≡ count_by is_report (map body_fields c.in-Told.heard.bodies.items) =
    c.report_count-reports.ensures.count ∙ ap (count_by tells_report) c.deref.ensures.value
    ∙ reports-same c.in-Told.heard.bodies.items in
    let few : count_by is_report (map body_fields c.in-Told.heard.bodies.items) ≤ 2 =
    told-few (table_of c.self.inside.terms.items c.self.inside.table c.self.inside.used c.self.inside.order_ids
    c.self.inside.exec_ids) c.args.port c.args.heard.now c.in-Told.order_id c.in-Told.client c.in-Told.next
    c.in-Told.heard told in
    let before : ledger_numbers (table_of c.self.inside.terms.items c.self.inside.table c.self.inside.used
    c.self.inside.order_ids c.self.inside.exec_ids) ≡ ledger_numbers c.args.self.now.now =
    ap ledger_numbers (now-is c.self.view_is) in
    record { clients = ap clients (now-is c.self.view_is); issued = omega (arith, tokens, count, few, before) }

pub returns-in-Silent-clause-changed : goal.returns-in-Silent-clause-changed
returns-in-Silent-clause-changed g c =
    let is : IsJudged (table_of c.self.inside.terms.items c.self.inside.table c.self.inside.used c.self.inside.order_ids
    c.self.inside.exec_ids) c.args.port c.args.heard.now Silent =
    subst (λ (j : Judged). IsJudged (table_of c.self.inside.terms.items c.self.inside.table c.self.inside.used
    c.self.inside.order_ids c.self.inside.exec_ids) c.args.port c.args.heard.now j) c.in-Silent.is
    (c.in_ok-hear.ensures (table_of c.self.inside.terms.items c.self.inside.table c.self.inside.used
    c.self.inside.order_ids c.self.inside.exec_ids) refl refl refl) in
    silent-changes c.args.self.now.now c.args.port c.args.heard.now c.nothing.result.changed c.nothing.ensures.changed
    (subst (λ (s : TableState). IsJudged s c.args.port c.args.heard.now Silent) (now-is c.self.view_is) is)

pub returns-in_ok-is_closed-in-Told-clause-changed : goal.returns-in_ok-is_closed-in-Told-clause-changed
returns-in_ok-is_closed-in-Told-clause-changed g c =
    let told : OrderIsTold (table_of c.self.inside.terms.items c.self.inside.table c.self.inside.used
    c.self.inside.order_ids c.self.inside.exec_ids) c.args.port c.args.heard.now c.in-Told.order_id c.in-Told.client
    c.in-Told.next c.in-Told.heard =
    subst (λ (j : Judged). IsJudged (table_of c.self.inside.terms.items c.self.inside.table c.self.inside.used
    c.self.inside.order_ids c.self.inside.exec_ids) c.args.port c.args.heard.now j) c.in-Told.is
    (c.in_ok-hear.ensures (table_of c.self.inside.terms.items c.self.inside.table c.self.inside.used
    c.self.inside.order_ids c.self.inside.exec_ids) refl refl refl) in
    let turn : MarketTurn = record {
      client = c.told_client-client.result;
      bodies = c.in-Told.heard.bodies;
      changed =
          Some (record {
            order_id = c.in-Told.order_id;
            is_closed = c.in_ok-is_closed-in-Told.is_closed;
            next =
                c.in-Told.next;
          });
    } in
    subst (λ (s : TableState). ChangesOrder s c.args.port c.args.heard.now
    (record {
      order_id = c.in-Told.order_id;
      is_closed = c.in_ok-is_closed-in-Told.is_closed;
      next =
          c.in-Told.next;
    })) (now-is c.self.view_is)
    (told-changes (table_of c.self.inside.terms.items c.self.inside.table c.self.inside.used c.self.inside.order_ids
    c.self.inside.exec_ids) c.args.port c.args.heard.now c.in-Told.order_id c.in-Told.client c.in-Told.next
    c.in-Told.heard turn told c.self.inside.table c.apply.new.self refl refl c.in_ok-is_closed-in-Told.is_closed
    c.in_ok-is_closed-in-Told.ensures.closed)

pub returns-in_ok-is_closed-in-Told-clause-nobody : goal.returns-in_ok-is_closed-in-Told-clause-nobody
returns-in_ok-is_closed-in-Told-clause-nobody g c =
    subst (λ (bs : List AppBody). bs ≡ [] → c.told_client-client.result ≡ None) c.deref-in-Told.ensures.value
    c.told_client-client.ensures.nobody
