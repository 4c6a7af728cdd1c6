use Rattle.std.proofs.Common.{rules, ◌≡◌, ◌∙◌, None, Some, ap}
use Rattle.std.proofs.lemmas.Result.{IfOk-weaker, on_ok_weaker}
use Rattle.std.specs.HashMap.{get}
use Rattle.order_law.specs.Reading.{account_read}
use Rattle.gate_audit.specs.Kept.{same_order}
use Rattle.gate_audit.specs.Pairs.{OpenedOrder}
use Rattle.gate_audit.specs.Passes.{sent_to}
use Rattle.gate_audit.proofs.Keeping.{kept-reading}
use Rattle.gate_audit.proofs.kept_readings.KeptReadings.account.Goals as goal

pub returns-in-None-clause-read : goal.returns-in-None-clause-read
returns-in-None-clause-read c = λ all are.
    let o : OpenedOrder = c.args.opening.now in
    let client : c.in_ok-key.key.client ≡ o.client = search (rules, c.in_ok-key.ensures.client, c.opening.view_is) in
    let order : c.in_ok-key.key.order.items ≡ o.order =
    search (rules, c.in_ok-key.ensures.order, c.as_slice.ensures.bytes, c.opening.view_is) in
    let is : get same_order c.args.self.now.readings c.in_ok-key.key ≡ None =
    search (rules, c.get.ensures.value, c.in-None.is) in
    c.account-in-None.ensures ∙ ap account_read (c.unread.ensures.nothing
    ∙ (kept-reading all c.args.self.now c.in_ok-key.key o None client order is are).0)

pub returns-in-None-clause-held : goal.returns-in-None-clause-held
returns-in-None-clause-held c = λ all are.
    let o : OpenedOrder = c.args.opening.now in
    let client : c.in_ok-key.key.client ≡ o.client = search (rules, c.in_ok-key.ensures.client, c.opening.view_is) in
    let order : c.in_ok-key.key.order.items ≡ o.order =
    search (rules, c.in_ok-key.ensures.order, c.as_slice.ensures.bytes, c.opening.view_is) in
    let is : get same_order c.args.self.now.readings c.in_ok-key.key ≡ None =
    search (rules, c.get.ensures.value, c.in-None.is) in
    (kept-reading all c.args.self.now c.in_ok-key.key o None client order is are).1

pub returns-clause-read : goal.returns-clause-read
returns-clause-read c =
    let o : OpenedOrder = c.args.opening.now in
    let client : c.in_ok-key.key.client ≡ o.client = search (rules, c.in_ok-key.ensures.client, c.opening.view_is) in
    let order : c.in_ok-key.key.order.items ≡ o.order =
    search (rules, c.in_ok-key.ensures.order, c.as_slice.ensures.bytes, c.opening.view_is) in
    let is : get same_order c.args.self.now.readings c.in_ok-key.key ≡ Some c.in-Some.kept.now =
    search (rules, c.get.ensures.value, c.in-Some.is) in
    IfOk-weaker c.account-in-Some.result _ _
    (λ account read all are. read o.order (sent_to o.client all)
    (kept-reading all c.args.self.now c.in_ok-key.key o (Some c.in-Some.kept.now) client order is are))
    c.account-in-Some.ensures.read

pub returns-clause-held : goal.returns-clause-held
returns-clause-held c =
    let o : OpenedOrder = c.args.opening.now in
    let client : c.in_ok-key.key.client ≡ o.client = search (rules, c.in_ok-key.ensures.client, c.opening.view_is) in
    let order : c.in_ok-key.key.order.items ≡ o.order =
    search (rules, c.in_ok-key.ensures.order, c.as_slice.ensures.bytes, c.opening.view_is) in
    let is : get same_order c.args.self.now.readings c.in_ok-key.key ≡ Some c.in-Some.kept.now =
    search (rules, c.get.ensures.value, c.in-Some.is) in
    on_ok_weaker c.account-in-Some.result
    (λ held all are. held o.order (sent_to o.client all)
    (kept-reading all c.args.self.now c.in_ok-key.key o (Some c.in-Some.kept.now) client order is are))
    c.account-in-Some.ensures.held

pub returns-clause-large : goal.returns-clause-large
returns-clause-large c =
    let o : OpenedOrder = c.args.opening.now in
    let client : c.in_ok-key.key.client ≡ o.client = search (rules, c.in_ok-key.ensures.client, c.opening.view_is) in
    let order : c.in_ok-key.key.order.items ≡ o.order =
    search (rules, c.in_ok-key.ensures.order, c.as_slice.ensures.bytes, c.opening.view_is) in
    let is : get same_order c.args.self.now.readings c.in_ok-key.key ≡ Some c.in-Some.kept.now =
    search (rules, c.get.ensures.value, c.in-Some.is) in
    λ err all are stays. c.account-in-Some.ensures.large err o.order (sent_to o.client all)
    (kept-reading all c.args.self.now c.in_ok-key.key o (Some c.in-Some.kept.now) client order is are) stays
