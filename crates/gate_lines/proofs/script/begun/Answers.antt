use Rattle.std.proofs.Common.{Bool, sym, subst}
use Rattle.gate_lines.specs.Scripts.{BeginsScript}
use Rattle.gate_lines.proofs.script.begun.Goals as goal

pub returns : goal.returns
returns g c = subst (λ (cold : Bool). BeginsScript cold c.in_ok-warm.warm) (sym c.if-flags.false)
    (c.started.new.kept, c.in_ok-warm.ensures c.new-kept.ensures)
