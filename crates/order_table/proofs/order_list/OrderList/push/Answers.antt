use Rattle.std.proofs.Common.{◌≤◌, List, length, sym, ap, subst, arith}
use Rattle.undo_index.proofs.Standing.{covered-pushed}
use Rattle.order_machine.specs.OrderRecord.{OrderRecord}
use Rattle.undo_index.specs.Undoing.{Undoable}
use Rattle.order_table.specs.Keys.{has_name_key, has_number_key, same_name, same_number}
use Rattle.order_table.proofs.Named.{number-leads}
use Rattle.order_table.proofs.Rooms.{room-in-order}
use Rattle.order_table.proofs.order_list.OrderList.push.Goals as goal

pub note-requires : goal.note-requires
note-requires g c = record {
  room = (room-in-order c.self.inside.orders.pushes c.self.inside.numbers.room
      c.self.inside.names.room (subst (λ (u : Undoable OrderRecord). 1 ≤ u.pushes)
      (sym c.self.view_is) c.requires.room)).1;
}

pub note_names-requires-clause-room : goal.note_names-requires-clause-room
note_names-requires-clause-room g c =
    (room-in-order c.self.inside.orders.pushes c.self.inside.numbers.room c.self.inside.names.room
    (subst (λ (u : Undoable OrderRecord). 1 ≤ u.pushes) (sym c.self.view_is) c.requires.room)).2

pub push-requires : goal.push-requires
push-requires g c =
    (room-in-order c.self.inside.orders.pushes c.self.inside.numbers.room c.self.inside.names.room
    (subst (λ (u : Undoable OrderRecord). 1 ≤ u.pushes) (sym c.self.view_is) c.requires.room)).0

pub invariant_of-self : goal.invariant_of-self
invariant_of-self g c = (
  covered-pushed same_number has_number_key c.note.new.self c.self.inside.orders c.push.new.self c.args.order
      (length c.as_slice-place.result.now)
      (number-leads c.note.new.self c.args.order c.order.inside.order_id (length c.as_slice-place.result.now)
      (omega arith) (ap (λ (o : OrderRecord). o.new.order) c.order.view_is) c.note.ensures.leads)
      c.push.ensures.settled (c.note.ensures.covered c.self.invariant.0)
      (sym (ap (λ (xs : List OrderRecord). length xs) c.as_slice-place.ensures)) c.push.ensures.now,
  covered-pushed same_name has_name_key c.note_names.new.names c.self.inside.orders c.push.new.self c.args.order
      (length c.as_slice-place.result.now)
      c.note_names.ensures.leads c.push.ensures.settled (c.note_names.ensures.covered c.self.invariant.1)
      (sym (ap (λ (xs : List OrderRecord). length xs) c.as_slice-place.ensures)) c.push.ensures.now,
)
