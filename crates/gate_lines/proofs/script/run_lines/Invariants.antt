-- The lines that were given stepped the runner, and what each came to is written.
use Rattle.std.proofs.Common.{◌≡◌, ℕ, ◌+◌, List, length}
use Rattle.wire_streams.specs.Unread.{lines_left}
use Rattle.wire_streams.proofs.Given.{Leaves}
use Rattle.gate_lines.specs.Scripts.{Prints}
use Rattle.gate_lines.proofs.script.run_lines.Given as goal

abbrev pub invariant-loop-number : goal.invariant-loop-number
invariant-loop-number g l =
    (given : List (List ℕ))
    × Prints l.fn.flags l.initial.runner given l.runner (g.W.Write.contents l.initial.output)
    (g.W.Write.contents l.output)
    × Leaves (g.R.Read.remaining l.initial.input) given (lines_left l.lines (g.R.Read.remaining l.input))
    × (length given + 1 ≡ l.number)
