use Rattle.std.proofs.Common.{◌≡◌, ◌++◌, length}
use Rattle.journal_pages.specs.declared.version.Version.TheVariants.{Two}
use Rattle.desk_steps.specs.gate_journal.Cut.{texts}
use Rattle.journal_file.specs.File.{sized_pages}
use Rattle.desk.proofs.replaying.note_pages.Given as goal

-- what was noted, with what is left, is what was there with all
abbrev pub invariant-loop-page : goal.invariant-loop-page
invariant-loop-page l = l.written ++ sized_pages Two (texts l.rest)
    ≡ l.initial.written ++ sized_pages Two (texts l.fn.pages)

abbrev pub decreases-loop-page : goal.decreases-loop-page
decreases-loop-page l = length l.rest
