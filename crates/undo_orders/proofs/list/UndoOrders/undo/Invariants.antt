use Rattle.std.proofs.Common.{◌≡◌, length, reverse}
use Rattle.undo_orders.specs.PuttingBack.{restored}
use Rattle.undo_orders.proofs.list.UndoOrders.undo.Given as goal

abbrev pub invariant-loop-was : goal.invariant-loop-was
invariant-loop-was l =
    (restored (reverse l.self-inside.changed.items) l.self-inside.orders.items ≡ l.fn.self.settled)
    × (length l.self-inside.orders.items ≡ l.self-inside.count)

abbrev pub decreases-loop-was : goal.decreases-loop-was
decreases-loop-was l = length l.self-inside.changed.items
