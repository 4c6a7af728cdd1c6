-- The messages of the ports so far.
use Rattle.std.proofs.Common.{◌≡◌, map}
use Rattle.gate_audit.specs.Called.{heard_on}
use Rattle.gate_audit.proofs.lives.shelved_messages.Given as goal

abbrev pub invariant-loop-port : goal.invariant-loop-port
invariant-loop-port l = l.handled.items ≡ map heard_on l.yielded
