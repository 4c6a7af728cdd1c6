use Rattle.std.proofs.Common.{◌<◌, length, sym, subst}
use Rattle.order_machine.specs.OrderRecord.{OrderRecord}
use Rattle.undo_orders.specs.Changes.{changed_by}
use Rattle.undo_index.specs.Undoing.{Undoable}
use Rattle.order_table.specs.Names.{KeepsNames}
use Rattle.order_table.proofs.Changing.{led-changed}
use Rattle.order_table.proofs.Named.{change-names, item-at}
use Rattle.order_table.proofs.order_list.OrderList.apply.Goals as goal

pub invariant_of-self-2 : goal.invariant_of-self-2
invariant_of-self-2 g c =
    let old = c.self.inside.orders in
    let there = item-at old.now c.args.place (subst (λ (u : Undoable OrderRecord). c.args.place < length u.now)
    (sym c.self.view_is) c.requires.inside) in
    let keeps : KeepsNames there.0 (changed_by c.args.change there.0) = change-names c.args.change there.0 in
    led-changed c.self.inside.numbers c.self.inside.names old c.apply.new.self c.args.place there.0
    (changed_by c.args.change there.0) there.1 keeps.asked
    (λ k t. c.self.invariant.1.now k c.args.place there.0 there.1 (keeps.names k t))
    (c.in_ok-apply.ensures.now there.0 there.1) c.apply.ensures.settled (c.self.invariant.0, c.self.invariant.1)
