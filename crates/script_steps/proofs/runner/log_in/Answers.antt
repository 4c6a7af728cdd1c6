use Rattle.std.proofs.Common.{refl}
use Rattle.script_steps.specs.Standing.{RunSoFar}
use Rattle.script_steps.proofs.runner.log_in.Goals as goal

pub returns : goal.returns
returns g c =
    let up : RunSoFar = record { runner = c.step.new.self; kept = c.step.new.kept } in
    let in_session : RunSoFar = record { runner = c.step-2.new.self; kept = c.step-2.new.kept } in (
      up,
      record { on = c.in_ok-step.ensures.on; events = c.in_ok-step.ensures.line },
      (in_session, record { on = c.in_ok-step-2.ensures.on; events = c.in_ok-step-2.ensures.line }, refl),
    )
