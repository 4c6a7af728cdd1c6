use Rattle.std.proofs.Common.{◌≡◌, ◌++◌, take}
use Rattle.status_metrics.specs.Metrics.{quoted}
use Rattle.status_metrics.proofs.metrics.push_quoted.Given as goal

-- that of the bytes so far
abbrev pub invariant-loop-byte : goal.invariant-loop-byte
invariant-loop-byte l = l.text.items ≡ l.initial.text.items ++ quoted (take l.byte-index l.name)
