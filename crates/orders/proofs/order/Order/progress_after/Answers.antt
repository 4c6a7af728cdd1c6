use Rattle.std.proofs.Common.{◌+◌, List, sym, ap, ◌∙◌}
use Rattle.order_machine.specs.History.{Entry}
use Rattle.order_machine.specs.OrderRecord.{OrderRecord}
use Rattle.orders.specs.declared.change.Change.{Change}
use Rattle.orders.specs.Changes.{changed_by, replaced_as, with_quantities}
use Rattle.orders.proofs.Quantities.{oldest-quantities}
use Rattle.orders.proofs.order.Order.progress_after.Goals as goal

pub returns-in-Replaced-clause-after : goal.returns-in-Replaced-clause-after
returns-in-Replaced-clause-after c =
    let o = c.args.self.now in
    let i = c.self.inside in
    let shares = c.in-Replaced.shares in
    let price = c.in-Replaced.price in
    let is_dead = c.in-Replaced.is_dead in
    let same = c.self.view_is in
    let is = c.replaced.ensures in
    c.over_if-in-Replaced.ensures.after o
    ∙ oldest-quantities is_dead c.replaced.result o i.client i.order_id i.replaces shares price
    (sym c.if-not-is_empty.ensures) is.stage
    (is.refused ∙ ap (λ (x : OrderRecord). x.is_refused) same)
    (is.total ∙ ap (λ (x : OrderRecord). x.executed + shares) same)
    is.price
    is.unfilled
    (is.executed ∙ ap (λ (x : OrderRecord). x.executed) same)
    (is.cancelled ∙ ap (λ (x : OrderRecord). x.cancelled) same)
    (is.value ∙ ap (λ (x : OrderRecord). x.value) same)
    ∙ ap (λ (x : List Entry). with_quantities (replaced_as shares price is_dead o x) o)
    (ap (λ (x : OrderRecord). x.replaces) same)
    ∙ ap (λ (x : Change). with_quantities (changed_by x o) o) (sym c.in-Replaced.is)
