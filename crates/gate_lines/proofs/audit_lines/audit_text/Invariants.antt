use Rattle.std.proofs.Common.{◌≡◌, take}
use Rattle.std.specs.List.{flat_map}
use Rattle.gate_lines.specs.AuditLines as shown
use Rattle.gate_lines.proofs.audit_lines.audit_text.Given as goal

abbrev pub invariant-loop-pair : goal.invariant-loop-pair
invariant-loop-pair l = l.text.items ≡ flat_map shown.shown_pair (take l.pair-index l.pairs)
