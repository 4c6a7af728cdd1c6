use Rattle.std.proofs.Common.{List, map, ap, ◌∙◌}
use Rattle.order_machine.specs.OrderRecord.{OrderRecord, replacements}
use Rattle.orders.specs.declared.requests.Replacing.{Replacing}
use Rattle.orders.specs.Seen.{replacing_token}
use Rattle.orders.proofs.Replacements.{replacements-seen}
use Rattle.orders.proofs.order.Order.next_tokens.Goals as goal

pub returns : goal.returns
returns c =
    let o = c.self.inside in
    c.tokens_of.ensures
    ∙ ap (λ (rs : List Replacing). map replacing_token rs) c.as_slice.ensures
    ∙ replacements-seen o.client o.order_id o.replaces
    ∙ ap (λ (r : OrderRecord). replacements r.replaces) c.self.view_is
