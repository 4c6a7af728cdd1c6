use Rattle.std.proofs.Common.{Bool, reverse, sym, ap, ◌∙◌}
use Rattle.std.specs.Prelude.{◌||◌, bytes_eq}
use Rattle.std.specs.List.{list_any}
use Rattle.order_machine.specs.OrderRecord.{OrderRecord}
use Rattle.orders.proofs.Marks.{any-reverse}
use Rattle.orders.proofs.order.Order.has_had.Goals as goal

pub returns-else-is_same_token : goal.returns-else-is_same_token
returns-else-is_same_token c =
    c.is_among.ensures
    ∙ ap (list_any (bytes_eq c.args.token.now)) c.deref.ensures.value
    ∙ sym (any-reverse (bytes_eq c.args.token.now) c.self.inside.earlier.items)
    ∙ ap (λ (b : Bool). b || list_any (bytes_eq c.args.token.now) (reverse c.self.inside.earlier.items))
    c.if-is_same_token.ensures
    ∙ ap (λ (o : OrderRecord). list_any (bytes_eq c.args.token.now) o.tokens) c.self.view_is
