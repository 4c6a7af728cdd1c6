-- What was read and given so far was taken.
use Rattle.journal_audit.proofs.Reading.{SoFar}
use Rattle.journal_audit.proofs.read_day.read_day.Given as goal

abbrev pub invariant-loop : goal.invariant-loop
invariant-loop g l = SoFar (g.R.Read.remaining l.initial.input) (g.R.Read.remaining l.input) l.settings l.reader.read
    l.reader.yielded l.audit
