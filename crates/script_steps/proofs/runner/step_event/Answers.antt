use Rattle.script_steps.proofs.Going.{one-on}
use Rattle.script_steps.proofs.runner.step_event.Goals as goal

pub returns-clause-on : goal.returns-clause-on
returns-clause-on g c = one-on _ _ c.args.event c.in_ok-batch.batch _ _ c.in_ok-batch.ensures.after
    c.in_ok-push.ensures.turns
