use Rattle.std.proofs.Common.{sym, subst}
use Rattle.gate_journal.specs.Cut.{texts}
use Rattle.gate_journal.specs.Kept.{Kept, kept_in}
use Rattle.gate_journal.specs.Same.{IsSameDay}
use Rattle.gateway_day.proofs.day.is_same.Goals as goal

pub returns-in-None : goal.returns-in-None
returns-in-None c is =
    subst (λ (k : Kept). IsSameDay k c.args.day.now) (sym c.pages.ensures.same)
    (subst (λ (k : Kept). IsSameDay (kept_in (texts c.pages.result.now)) k) (sym c.pages-2.ensures.same)
    c.in-None.ensures)
