-- A line that waits.
use Rattle.std.specs.Prelude.{ℕ, List, take}
use Rattle.stderr_queue.specs.declared.line.Line.{Line}

-- the text of a line
abbrev pub line_text : Line → List ℕ
line_text line = take line.length line.bytes
