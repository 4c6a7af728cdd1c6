use Rattle.std.proofs.Common.{◌≡◌, List, reverse, decimal, sym, subst, arith}
use Rattle.std.specs.Prelude.{None, MatchOption}
use Rattle.std.specs.List.{find}
use Rattle.undo_index.specs.Newest.{IsNewest}
use Rattle.undo_index.specs.Undoing.{Undoable}
use Rattle.undo_index.proofs.Standing.{led-by}
use Rattle.undo_index.specs.Hints.{LedBy, hint_of}
use Rattle.order_machine.specs.OrderRecord.{OrderRecord}
use Rattle.order_machine.specs.Table.{has_number}
use Rattle.order_table.specs.Keys.{has_number_key, same_number}
use Rattle.order_table.proofs.Named.{number-key}
use Rattle.order_table.proofs.order_list.OrderList.place_of.Goals as goal

pub place_of-requires : goal.place_of-requires
place_of-requires g c =
    subst (λ (xs : List OrderRecord). LedBy (hint_of same_number c.self.inside.numbers
    (record { number = c.args.order_id })) (has_number (decimal c.args.order_id)) xs) (sym c.as_slice.ensures)
    (led-by same_number has_number_key c.self.inside.numbers c.self.inside.orders.now
    (record { number = c.args.order_id }) (has_number (decimal c.args.order_id)) c.self.invariant.0.now
    (λ o t. number-key c.args.order_id o (omega (arith, c.ranges.order_id.fits)) t))

pub returns : goal.returns
returns g c =
    subst (λ (u : Undoable OrderRecord). MatchOption c.place_of.result
    (find (has_number (decimal c.args.order_id)) (reverse u.now) ≡ None)
    (λ place. IsNewest (has_number (decimal c.args.order_id)) u.now place)) c.self.view_is
    (subst (λ (xs : List OrderRecord). MatchOption c.place_of.result
    (find (has_number (decimal c.args.order_id)) (reverse xs) ≡ None)
    (λ place. IsNewest (has_number (decimal c.args.order_id)) xs place)) c.as_slice.ensures c.place_of.ensures)
