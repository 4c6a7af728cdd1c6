use Rattle.std.proofs.Common.{◌∷◌, ◌∙◌, ap}
use Rattle.gate_events.specs.Seen.{batch_seen}
use Rattle.gate_core.specs.Core.{turn_of}
use Rattle.gate_journal.specs.Kept.{turns}
use Rattle.desk_steps.proofs.Recording.{after-same, after-turns, on-err, same-recorded, step-is}
use Rattle.desk_steps.proofs.recorded.RecordedCore.step.Goals as goal

pub invariant_of-self : goal.invariant_of-self
invariant_of-self g c = after-same c.self.inside.settings
    (turns c.self.inside.history) c.self.inside.core _ c.in_err-batch.ensures.err c.self.invariant

pub returns-in_err-batch-clause-err : goal.returns-in_err-batch-clause-err
returns-in_err-batch-clause-err g c = on-err c.from_residual.result c.self.view_is

pub invariant_of-self-in-Ok : goal.invariant_of-self-in-Ok
invariant_of-self-in-Ok g c =
    after-turns c.self.inside.settings (turn_of c.args.event.now c.in_ok-batch.batch ∷ turns c.self.inside.history) _ _
    c.in-Ok.ensures.turns
    (c.in_ok-batch.ensures.after c.self.inside.settings (turns c.self.inside.history) c.self.invariant)

pub returns-clause-ok : goal.returns-clause-ok
returns-clause-ok g c =
    step-is c.args.event.now c.of.result (batch_seen c.in_ok-batch.batch) c.self.inside.settings c.self.inside.history _
    c.args.self.now c.self.view_is c.in-Ok.ensures.events c.in-Ok.ensures.batches c.in-Ok.ensures.pages c.of.ensures
    (c.in_ok-batch.ensures.holds c.self.inside.settings (turns c.self.inside.history) c.self.invariant)

pub invariant_of-self-in-Err : goal.invariant_of-self-in-Err
invariant_of-self-in-Err g c =
    after-turns c.self.inside.settings (turns c.self.inside.history) _ _ (ap turns c.in-Err.ensures.err)
    (after-same c.self.inside.settings (turns c.self.inside.history) c.self.inside.core _
    (c.undo.ensures.now ∙ c.step.ensures.settled) c.self.invariant)

pub returns-in-Err-clause-err : goal.returns-in-Err-clause-err
returns-in-Err-clause-err g c = same-recorded c.self.inside.settings c.self.inside.history _ c.args.self.now
    c.self.view_is c.in-Err.ensures.err
