use Rattle.std.proofs.Common.{List, sym, subst}
use Rattle.world_law.specs.World.{WorldStep}
use Rattle.closed_world.specs.Worlds.{IsWorld}
use Rattle.gate_audit.proofs.Playing.{steps-more}
use Rattle.gate_audit.proofs.played.world_after.Goals as goal

pub loop-step-preserved : goal.loop-step-preserved
loop-step-preserved c =
    subst (λ (steps : List WorldStep). IsWorld c.args.settings.now steps c.step.new.self)
    (sym (steps-more c.args.steps.now c.loop-step.step-index c.step-item.result c.loop-step-test.true c.step-item.is))
    (c.in_ok-step.ensures c.args.settings.now _ c.loop-step.invariant)
