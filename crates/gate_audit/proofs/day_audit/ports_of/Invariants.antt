-- The ports so far.
use Rattle.std.proofs.Common.{◌≡◌, [], length}
use Rattle.gate_audit.specs.Called.{AreHandled}
use Rattle.gate_audit.proofs.day_audit.ports_of.Given as goal

abbrev pub invariant-loop-place : goal.invariant-loop-place
invariant-loop-place l = record {
  handled : AreHandled l.settings [] 0 l.ports.items;
  many : length l.ports.items ≡ l.place;
}
