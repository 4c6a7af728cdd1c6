use Rattle.std.proofs.Common.{ℕ, List, map, ap, ◌∙◌}
use Rattle.order_machine.specs.History.{last_token}
use Rattle.order_machine.specs.OrderRecord.{OrderRecord, live_token, replacements}
use Rattle.orders.specs.declared.requests.Replacing.{Replacing}
use Rattle.orders.specs.Seen.{replacing_token}
use Rattle.orders.proofs.Replacements.{last-replacing, replacements-seen}
use Rattle.orders.proofs.order.Order.next_token.Goals as goal

pub returns-in-len1-up : goal.returns-in-len1-up
returns-in-len1-up c =
    let o = c.self.inside in
    ap (λ (r : Replacing). r.token) c.newest-item.is
    ∙ last-replacing o.token c.as_slice.result.now c.newest-item.result c.in-len1-up.len_at_least
    ∙ ap (λ (rs : List Replacing). last_token o.token (map replacing_token rs)) c.as_slice.ensures
    ∙ ap (λ (ts : List (List ℕ)). last_token o.token ts) (replacements-seen o.client o.order_id o.replaces)
    ∙ ap (λ (r : OrderRecord). last_token (live_token r) (replacements r.replaces)) c.self.view_is
