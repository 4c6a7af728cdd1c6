use Rattle.std.proofs.Common.{◌≡◌, List, map, refl, sym, subst}
use Rattle.fix_types.specs.NewOrder.{new_order_fields}
use Rattle.to_market.specs.order_law.History.{terms_of}
use Rattle.order_machine.specs.fix_fields.Field.{text}
use Rattle.order_machine.specs.Table.{TableState}
use Rattle.to_market.specs.TermsSeen.{terms_seen}
use Rattle.to_market.specs.declared.client_terms.ClientTerms.{ClientTerms}
use Rattle.to_market.specs.declared.sender.Sender.{Sender}
use Rattle.to_market.specs.NewTurns.{StandsAfter}
use Rattle.order_core.proofs.Stepped.{now-is, refused_new-ok, table_of}
use Rattle.order_core.proofs.ledger.OrderLedger.new_order.Goals as goal

pub accept_new-requires-clause-is : goal.accept_new-requires-clause-is
accept_new-requires-clause-is g c =
    let s : TableState = table_of c.self.inside.terms.items c.self.inside.table c.self.inside.used
    c.self.inside.order_ids c.self.inside.exec_ids in
    let sender : Sender = record { client = c.args.client; terms = c.terms_at-terms.result; port = c.args.port } in
    let terms : terms_of s.terms c.args.client ≡ terms_seen c.terms_at-terms.result =
    subst (λ (ts : List ClientTerms). terms_of (map terms_seen ts) c.args.client
    ≡ terms_seen c.terms_at-terms.result) c.deref.ensures.value c.terms_at-terms.ensures in
    let after : StandsAfter s c.self.inside.order_ids c.self.inside.exec_ids sender c.self.inside.table
    (text 11 (new_order_fields c.args.order.now)) c.is_used-is_duplicate.result =
    record {
      numbered = refl;
      stands = record
          { orders = refl; tokens = refl; reports = refl; terms = terms; used = sym c.is_used-is_duplicate.ensures };
    } in
    let moved : StandsAfter c.args.self.now.now c.self.inside.order_ids c.self.inside.exec_ids sender
    c.self.inside.table (text 11 (new_order_fields c.args.order.now)) c.is_used-is_duplicate.result =
    subst (λ (t : TableState). StandsAfter t c.self.inside.order_ids c.self.inside.exec_ids sender c.self.inside.table
    (text 11 (new_order_fields c.args.order.now)) c.is_used-is_duplicate.result) (now-is c.self.view_is) after in
    c.in_ok-accepted-in-Ok.ensures c.args.self.now.now c.is_used-is_duplicate.result moved c.in-Ok.ensures.verdict

pub returns-in_ok-body-in-Err-clause-meets : goal.returns-in_ok-body-in-Err-clause-meets
returns-in_ok-body-in-Err-clause-meets g c =
    let s : TableState = table_of c.self.inside.terms.items c.self.inside.table c.self.inside.used
    c.self.inside.order_ids c.self.inside.exec_ids in
    let sender : Sender = record { client = c.args.client; terms = c.terms_at-terms.result; port = c.args.port } in
    let terms : terms_of s.terms c.args.client ≡ terms_seen c.terms_at-terms.result =
    subst (λ (ts : List ClientTerms). terms_of (map terms_seen ts) c.args.client
    ≡ terms_seen c.terms_at-terms.result) c.deref.ensures.value c.terms_at-terms.ensures in
    let after : StandsAfter s c.self.inside.order_ids c.self.inside.exec_ids sender c.self.inside.table
    (text 11 (new_order_fields c.args.order.now)) c.is_used-is_duplicate.result =
    record {
      numbered = refl;
      stands = record
          { orders = refl; tokens = refl; reports = refl; terms = terms; used = sym c.is_used-is_duplicate.ensures };
    } in
    let moved : StandsAfter c.args.self.now.now c.self.inside.order_ids c.self.inside.exec_ids sender
    c.self.inside.table (text 11 (new_order_fields c.args.order.now)) c.is_used-is_duplicate.result =
    subst (λ (t : TableState). StandsAfter t c.self.inside.order_ids c.self.inside.exec_ids sender c.self.inside.table
    (text 11 (new_order_fields c.args.order.now)) c.is_used-is_duplicate.result) (now-is c.self.view_is) after in
    refused_new-ok c.args.self.now.now c.args.client
    (new_order_fields c.args.order.now) _ c.in_ok-body-in-Err.body _ c.refuse_new.result
    (c.in_ok-body-in-Err.ensures c.args.self.now.now sender c.self.inside.table c.is_used-is_duplicate.result moved
    c.in-Err.ensures.verdict)
    c.refuse_new.ensures.bodies c.refuse_new.ensures.asks c.refuse_new.ensures.used
