use Rattle.std.proofs.Common.{◌≡◌, ◌++◌}
use Rattle.gate_events.proofs.short_list.ShortList.push_all.Given as goal

-- those that were pushed so far
abbrev pub invariant-loop-item : goal.invariant-loop-item
invariant-loop-item g l = l.self.items ≡ l.fn.self.items ++ l.yielded
