-- What was passed is added.
use Rattle.std.proofs.Common.{◌≡◌, ◌++◌, take, drop}
use Rattle.script_steps.proofs.frames.push_some.Given as goal

abbrev pub invariant-loop-i : goal.invariant-loop-i
invariant-loop-i l = l.body ≡ l.initial.body ++ drop l.fn.from (take l.i l.fields)
