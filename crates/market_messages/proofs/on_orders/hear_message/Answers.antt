use Rattle.std.proofs.Common.{sym, ◌∙◌}
use Rattle.market_messages.proofs.Judging.{is-on, steps-found}
use Rattle.market_messages.proofs.on_orders.hear_message.Goals as goal

pub returns-in-Some-by_token : goal.returns-in-Some-by_token
returns-in-Some-by_token g c =
    steps-found c.args.issued c.args.port c.args.message.now c.args.table.now c.in-Some.token.now
    (is-on c.args.port c.args.message.now c.args.table.now c.in-Some.token.now
    (sym c.is_new_token_known.ensures ∙ c.if-not-is_new_token_known.false) c.in-Some.ensures)
    c.in-Some-by_token.order.now c.in-Some-by_token.ensures c.hear_on_order.result c.hear_on_order.ensures
