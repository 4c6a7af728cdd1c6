use Rattle.std.proofs.Common.{sym, subst}
use Rattle.desk_steps.specs.gate_journal.Kept.{Kept}
use Rattle.desk_steps.specs.Settling.{AreSettled}
use Rattle.desk.proofs.shared.Shared.close.Goals as goal

pub returns-in-Ok-close-clause-settled : goal.returns-in-Ok-close-clause-settled
returns-in-Ok-close-clause-settled g c =
    subst (λ (z : Kept). AreSettled c.args.finished.items z) (sym c.in-Ok-close.ensures.history) c.in-Ok.ensures.settled

pub returns-in-Ok-close-clause-output : goal.returns-in-Ok-close-clause-output
returns-in-Ok-close-clause-output g c = c.in-Ok-close.ensures.output c.args.finished.items c.settle.ensures.released
