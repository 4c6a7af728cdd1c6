-- What was written and the pieces that are left give what all are.
use Rattle.std.proofs.Common.{◌≡◌, ◌++◌}
use Rattle.journal_log.specs.Pieces.{bytes_ahead, pages_ahead}
use Rattle.journal_log.proofs.pieces.Pieces.add_to.Given as goal

abbrev pub invariant-loop-piece : goal.invariant-loop-piece
invariant-loop-piece l = l.sum ++ bytes_ahead l.rest ≡ l.fn.sum ++ bytes_ahead l.fn.self

abbrev pub decreases-loop-piece : goal.decreases-loop-piece
decreases-loop-piece l = pages_ahead l.rest
