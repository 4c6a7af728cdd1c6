-- What was taken of the stream is the line so far, and has no newline.
use Rattle.std.proofs.Common.{◌≡◌, false}
use Rattle.std.specs.Io.KnownBytes.{Consumes, prepend_known}
use Rattle.wire_streams.specs.Pieces.{HasNoNewline}
use Rattle.wire_streams.proofs.lines.Lines.line.Given as goal

abbrev pub invariant-loop : goal.invariant-loop
invariant-loop g l = record {
  going : l.self.is_over ≡ false;
  none : HasNoNewline l.line.items;
  taken : Consumes (prepend_known l.initial.self.piece (g.R.Read.remaining l.initial.input))
      (prepend_known l.self.piece (g.R.Read.remaining l.input)) l.line.items;
}
