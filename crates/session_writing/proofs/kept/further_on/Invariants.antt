use Rattle.std.proofs.Common.{◌≡◌, map, take}
use Rattle.session_writing.specs.Keeping.{place_further}
use Rattle.session_writing.proofs.kept.further_on.Given as goal

-- the places passed so far
abbrev pub invariant-loop-place : goal.invariant-loop-place
invariant-loop-place l = l.all.items ≡ map (place_further l.shift) (take l.place-index l.places)
