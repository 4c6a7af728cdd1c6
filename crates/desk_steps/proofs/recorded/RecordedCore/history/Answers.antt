use Rattle.std.proofs.Common.{subst}
use Rattle.gate_journal.specs.gate_law.Holds.{Holds}
use Rattle.gate_journal.specs.Kept.{turns}
use Rattle.desk_steps.specs.Recorded.{Recorded}
use Rattle.desk_steps.proofs.Recording.{holds-after}
use Rattle.desk_steps.proofs.recorded.RecordedCore.history.Goals as goal

pub returns-clause-holds : goal.returns-clause-holds
returns-clause-holds g c =
    subst (λ (z : Recorded). Holds z.settings (turns z.kept)) c.self.view_is
    (holds-after c.self.inside.settings (turns c.self.inside.history) c.self.inside.core c.self.invariant)
