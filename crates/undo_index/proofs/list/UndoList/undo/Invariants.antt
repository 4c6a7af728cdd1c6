use Rattle.std.proofs.Common.{◌≡◌, length, reverse}
use Rattle.undo_index.specs.Undoing.{restored}
use Rattle.undo_index.proofs.list.UndoList.undo.Given as goal

abbrev pub invariant-loop-was : goal.invariant-loop-was
invariant-loop-was g l =
    (restored (reverse l.self-inside.changed.items) l.self-inside.items.items ≡ l.fn.self.settled)
    × (length l.self-inside.items.items ≡ l.self-inside.count)

abbrev pub decreases-loop-was : goal.decreases-loop-was
decreases-loop-was g l = length l.self-inside.changed.items
