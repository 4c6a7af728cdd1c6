-- What contracts see stays as it is.
use Rattle.std.proofs.Common.{◌≡◌}
use Rattle.gate_journal.proofs.growing_history.GrowingHistory.drop_older.Given as goal

abbrev pub invariant-loop : goal.invariant-loop
invariant-loop l = l.self ≡ l.initial.self
