use Rattle.std.proofs.Common.{IfSome, subst}
use Rattle.gate_lines.specs.declared.flags.Flags.{Flags}
use Rattle.gate_lines.specs.Scripts.{PrintsAll}
use Rattle.command_lines.proofs.script_program.run_program.Goals as goal

pub returns-in-Ok-clause-printed : goal.returns-in-Ok-clause-printed
returns-in-Ok-clause-printed g c none is =
    subst
    (λ (f : Flags). IfSome (g.R.Read.remaining c.args.input.now)
    (λ text. PrintsAll f text (g.W.Write.contents c.args.output.now) (g.W.Write.contents c.run_script.new.output)))
    c.in-Ok.ensures.flags
    (c.run_script.ensures.printed is)
