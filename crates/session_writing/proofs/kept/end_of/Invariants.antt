use Rattle.session_writing.proofs.Keeping.{AllEnd}
use Rattle.session_writing.proofs.kept.end_of.Given as goal

-- where the places passed so far end
abbrev pub invariant-loop-place : goal.invariant-loop-place
invariant-loop-place l = AllEnd l.places l.place-index l.end
