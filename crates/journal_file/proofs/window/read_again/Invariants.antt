-- The room keeps its length, and nothing was read.
use Rattle.std.proofs.Common.{◌≡◌, length}
use Rattle.std.specs.Io.KnownBytes.{Keeps}
use Rattle.journal_file.proofs.window.read_again.Given as goal

abbrev pub invariant-loop : goal.invariant-loop
invariant-loop g l = (length l.room ≡ length l.initial.room)
    × Keeps (g.R.Read.remaining l.initial.input) (g.R.Read.remaining l.input)
