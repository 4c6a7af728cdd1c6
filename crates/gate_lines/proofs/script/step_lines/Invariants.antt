-- The core went on by the lines that were given, and they stepped the runner.
use Rattle.std.proofs.Common.{ℕ, List}
use Rattle.std.specs.List.{FoldsTo}
use Rattle.wire_streams.specs.Unread.{lines_left}
use Rattle.wire_streams.proofs.Given.{Leaves}
use Rattle.script_steps.specs.Standing.{IsTextStep}
use Rattle.script_steps.specs.Steps.{ScriptGoesOn}
use Rattle.gate_lines.proofs.script.step_lines.Given as goal

abbrev pub invariant-loop-number : goal.invariant-loop-number
invariant-loop-number g l = record {
  on : ScriptGoesOn l.initial.runner.core l.initial.kept l.runner.core l.kept;
  lines :
      (given : List (List ℕ))
      × FoldsTo IsTextStep (record { runner = l.initial.runner; kept = l.initial.kept }) given
      (record { runner = l.runner; kept = l.kept })
      × Leaves (g.R.Read.remaining l.initial.input) given (lines_left l.lines (g.R.Read.remaining l.input));
}
