-- What was read and given so far was written.
use Rattle.day_export.proofs.Turns.{SoFar}
use Rattle.day_export.proofs.day.write_rows.Given as goal

abbrev pub invariant-loop : goal.invariant-loop
invariant-loop g l = SoFar (g.R.Read.remaining l.initial.input) (g.R.Read.remaining l.input)
    (g.W.Write.contents l.initial.output) (g.W.Write.contents l.output) l.format l.reader.read l.reader.yielded
