-- What was read so far stands in front of what is left, and nothing was given.
use Rattle.std.proofs.Common.{◌≡◌}
use Rattle.journal_file.specs.Reader.{ReadsOn}
use Rattle.journal_file.proofs.reader.DayReader.next.Given as goal

abbrev pub invariant-loop : goal.invariant-loop
invariant-loop g l = record {
  read : ReadsOn (g.R.Read.remaining l.initial.input) (g.R.Read.remaining l.input) l.initial.self.read l.self.read;
  yielded : l.self.yielded ≡ l.initial.self.yielded;
}
