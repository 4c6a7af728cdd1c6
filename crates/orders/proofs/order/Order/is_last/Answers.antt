use Rattle.std.proofs.Common.{sym, ap, ◌∙◌, Option}
use Rattle.std.specs.Prelude.{Some, bytes_eq, option_map}
use Rattle.order_machine.specs.OrderRecord.{OrderRecord, last_after}
use Rattle.orders.specs.declared.requests.Cancelling.{Cancelling}
use Rattle.orders.specs.Seen.{cancel_seen}
use Rattle.orders.proofs.Answered.{all-answered}
use Rattle.orders.proofs.order.Order.is_last.Goals as goal

pub returns-in-Some : goal.returns-in-Some
returns-in-Some c =
    let test = bytes_eq c.args.token.now in
    let seen = cancel_seen c.self.inside.client c.self.inside.order_id in
    c.is_last.ensures
    ∙ all-answered test c.get.result.now.tokens.items
    ∙ ap (λ (x : Cancelling). last_after test (Some (seen x))) c.get.ensures
    ∙ ap (λ (x : Option Cancelling). last_after test (option_map seen x)) (sym c.in-Some.is)
    ∙ ap (λ (o : OrderRecord). last_after test o.cancel) c.self.view_is
