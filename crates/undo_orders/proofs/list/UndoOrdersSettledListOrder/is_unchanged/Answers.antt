use Rattle.std.proofs.Common.{◌≡◌, length, sym, ◌∙◌, subst, eqb-true, arith}
use Rattle.std.specs.Prelude.{vec_len}
use Rattle.orders.specs.order_machine.OrderRecord.{OrderRecord}
use Rattle.undo_index.specs.Undoing.{IsWithin, Undoable}
use Rattle.undo_orders.proofs.Putting.{settled-still}
use Rattle.undo_orders.proofs.list.UndoOrdersSettledListOrder.is_unchanged.Goals as goal

pub returns : goal.returns
returns c = λ e.
    let none : vec_len c.self.inside.changed ≡ 0 =
    eqb-true (vec_len c.self.inside.changed) 0 (sym c.is_empty.ensures ∙ e) in
    let few : length c.self.inside.changed.items ≡ 0 = omega (arith, none, c.self.inside.changed.ok) in
    subst (λ (u : Undoable OrderRecord). IsWithin u.settled u.now) c.self.view_is
    (settled-still c.self.inside.count c.self.inside.changed.items c.self.inside.orders.items few)
