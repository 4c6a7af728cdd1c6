-- The pages so far are copied.
use Rattle.std.proofs.Common.{◌≡◌, take}
use Rattle.journal_days.specs.Cut.{texts}
use Rattle.journal_days.proofs.pages.DayPages.copied.Given as goal

abbrev pub invariant-loop-page : goal.invariant-loop-page
invariant-loop-page l = texts l.copies.items ≡ texts (take l.page-index l.pages)
