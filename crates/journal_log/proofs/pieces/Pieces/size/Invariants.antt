-- What was counted and the pieces that are left are no more than all.
use Rattle.std.proofs.Common.{◌≤◌, ◌+◌, length}
use Rattle.journal_log.specs.Pieces.{bytes_ahead, pages_ahead}
use Rattle.journal_log.proofs.pieces.Pieces.size.Given as goal

abbrev pub invariant-loop-piece : goal.invariant-loop-piece
invariant-loop-piece l = l.size + length (bytes_ahead l.rest) ≤ length (bytes_ahead l.fn.self)

abbrev pub decreases-loop-piece : goal.decreases-loop-piece
decreases-loop-piece l = pages_ahead l.rest
