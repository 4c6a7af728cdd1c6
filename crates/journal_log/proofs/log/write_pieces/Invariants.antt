-- What was added and the pieces that are left give what all are; whatever a crash leaves has what it left before.
use Rattle.std.proofs.Common.{◌≡◌, ◌≤◌, ◌++◌}
use Rattle.journal_log.specs.Crash.{Follows, StandsBefore}
use Rattle.journal_log.specs.Pieces.{bytes_ahead, pages_ahead}
use Rattle.journal_log.proofs.log.write_pieces.Given as goal

abbrev pub invariant-loop-piece : goal.invariant-loop-piece
invariant-loop-piece g l = record {
  added : g.F.LogFile.seen l.file ++ bytes_ahead l.rest ≡ g.F.LogFile.seen l.fn.file ++ bytes_ahead l.fn.pieces;
  crash : Follows StandsBefore (g.F.LogFile.may_leave l.fn.file) (g.F.LogFile.may_leave l.file);
  earlier : g.F.LogFile.faults l.fn.file ≤ g.F.LogFile.faults l.file;
}

abbrev pub decreases-loop-piece : goal.decreases-loop-piece
decreases-loop-piece g l = pages_ahead l.rest
