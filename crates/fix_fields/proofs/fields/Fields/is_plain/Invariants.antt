use Rattle.std.proofs.Common.{◌≡◌, take, drop}
use Rattle.fix_fields.specs.Fault.{first_fault, first_fault_behind}
use Rattle.fix_fields.proofs.fields.Fields.is_plain.Given as goal

abbrev pub invariant-loop-i : goal.invariant-loop-i
invariant-loop-i l = first_fault l.self ≡ first_fault_behind (take l.i l.self) (drop l.i l.self)
