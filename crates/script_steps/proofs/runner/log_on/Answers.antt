use Rattle.std.proofs.Common.{List, subst, refl}
use Rattle.fix_fields.specs.Field.{Field}
use Rattle.script_lines.specs.declared.line.Line.TheVariants as line
use Rattle.script_steps.specs.Steps.{KeepsLine}
use Rattle.script_steps.specs.Standing.{RunSoFar}
use Rattle.script_steps.proofs.runner.log_on.Goals as goal

pub returns : goal.returns
returns g c =
    let up : RunSoFar = record { runner = c.step.new.self; kept = c.step.new.kept } in
    let on : RunSoFar = record { runner = c.step-2.new.self; kept = c.step-2.new.kept } in
    let message = subst (λ (fields : List Field). KeepsLine c.step.new.self.core
    (line.ClientMessage c.args.client fields) c.step.new.self.links c.step-2.new.self.links c.step.new.kept
    c.step-2.new.kept)
    c.in_ok-logon.ensures c.in_ok-step-2.ensures.line in (
      up,
      record { on = c.in_ok-step.ensures.on; events = c.in_ok-step.ensures.line },
      (on, record { on = c.in_ok-step-2.ensures.on; events = message }, refl),
    )
