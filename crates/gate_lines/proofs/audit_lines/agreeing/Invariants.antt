use Rattle.std.proofs.Common.{◌≡◌, ◌≤◌, take}
use Rattle.gate_lines.specs.AuditLines as shown
use Rattle.gate_lines.proofs.audit_lines.agreeing.Given as goal

abbrev pub invariant-loop-pair : goal.invariant-loop-pair
invariant-loop-pair l = (l.agreeing ≡ shown.agreeing (take l.pair-index l.pairs)) × (l.agreeing ≤ l.pair-index)
