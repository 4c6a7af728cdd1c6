-- What is left of the text is still to be cut.
use Rattle.std.proofs.Common.{◌≡◌, drop}
use Rattle.stderr_queue.specs.Shown.{cut}
use Rattle.stderr_queue.specs.Line.{line_text}
use Rattle.stderr_queue.proofs.line.LineWrite.write_str.Given as goal

abbrev pub invariant-loop-byte : goal.invariant-loop-byte
invariant-loop-byte l = cut (line_text l.self) (drop l.byte-index l.byte-items)
    ≡ cut (line_text l.initial.self) l.byte-items
