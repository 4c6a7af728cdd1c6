use Rattle.std.proofs.Common.{rules, length}
use Rattle.fix_types.specs.NewOrder.{new_order_fields}
use Rattle.order_machine.specs.Table.{open_count}
use Rattle.to_market.specs.PortsSeen.{port_seen}
use Rattle.to_market.proofs.NewVerdict.{Passes, by_fields, full, spent}
use Rattle.to_market.proofs.NewAsking.{asks_next}
use Rattle.to_market.proofs.verdicts.verdict.Goals as goal

pub returns-in_err-ask-clause-verdict : goal.returns-in_err-ask-clause-verdict
returns-in_err-ask-clause-verdict g c =
    let passes : Passes c.args.is_used (port_seen c.args.sender.now.port) =
    record { is_new = search rules; ports = search rules } in
    let verdict = by_fields _ _ (open_count c.args.table.now.orders c.args.sender.now.client)
    (length c.args.table.now.tokens) (new_order_fields c.args.order.now) c.in_err-ask.field-0.0 passes
    (search rules) in
    search (rules, verdict)

pub returns-in_err-refuse_if-2-clause-verdict : goal.returns-in_err-refuse_if-2-clause-verdict
returns-in_err-refuse_if-2-clause-verdict g c =
    let passes : Passes c.args.is_used (port_seen c.args.sender.now.port) =
    record { is_new = search rules; ports = search rules } in
    let verdict = full _ _ (open_count c.args.table.now.orders c.args.sender.now.client)
    (length c.args.table.now.tokens) (new_order_fields c.args.order.now) passes (search rules) (search rules) in
    search (rules, verdict)

pub returns-in_err-token-clause-verdict : goal.returns-in_err-token-clause-verdict
returns-in_err-token-clause-verdict g c =
    let passes : Passes c.args.is_used (port_seen c.args.sender.now.port) =
    record { is_new = search rules; ports = search rules } in
    let verdict = spent _ _ (open_count c.args.table.now.orders c.args.sender.now.client)
    (length c.args.table.now.tokens) (new_order_fields c.args.order.now) passes (search rules) (search rules)
    (search rules) in
    search (rules, verdict)

pub returns-clause-asks : goal.returns-clause-asks
returns-clause-asks g c =
    asks_next c.args.sender.now c.args.table.now c.args.order.now c.in_ok-token.token c.in_ok-ask.ask
    c.enter_order.result
    (search rules) c.in_ok-ask.ensures.asks c.in_ok-ask.ask.stock_set.0
    c.enter_order.ensures.token c.enter_order.ensures.shares c.enter_order.ensures.price
    (c.enter_order.ensures.says _ c.in_ok-ask.ensures.asks)
