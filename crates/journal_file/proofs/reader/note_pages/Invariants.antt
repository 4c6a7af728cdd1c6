-- The pages so far are noted.
use Rattle.std.proofs.Common.{◌≡◌, ◌++◌, take}
use Rattle.journal_days.specs.Cut.{texts}
use Rattle.journal_file.proofs.reader.note_pages.Given as goal

abbrev pub invariant-loop-page : goal.invariant-loop-page
invariant-loop-page l = l.noted.pages ≡ l.initial.noted.pages ++ texts (take l.page-index l.pages)
