-- What is wrong from here on is what is wrong with all.
use Rattle.std.proofs.Common.{◌≡◌, length}
use Rattle.journal_days.specs.Cut.{texts}
use Rattle.journal_days.specs.Day.{day_fault, fault_from}
use Rattle.journal_days.proofs.day.judge_pages.Given as goal

abbrev pub invariant-loop-first : goal.invariant-loop-first
invariant-loop-first l = fault_from l.fn.version l.index l.number l.place (texts l.rest)
    ≡ day_fault l.fn.version (texts l.pages)

abbrev pub decreases-loop-first : goal.decreases-loop-first
decreases-loop-first l = length l.rest
