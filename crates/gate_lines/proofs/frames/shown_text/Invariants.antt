-- The fields so far are added.
use Rattle.std.proofs.Common.{◌≡◌, take}
use Rattle.gate_lines.specs.Frames.{shown_behind_bars}
use Rattle.gate_lines.proofs.frames.shown_text.Given as goal

abbrev pub invariant-loop-i : goal.invariant-loop-i
invariant-loop-i l = l.text.items ≡ shown_behind_bars l.fn.with_number (take l.i l.fields)
