use Rattle.std.proofs.Common.{[], refl, sym, subst, arith}
use Rattle.gate_law.proofs.Steps.{holds-first}
use Rattle.gate_core.specs.Core.{After}
use Rattle.gate_core.specs.State.{AreSound, PartsStand}
use Rattle.gate_core.proofs.Fields.{CoreFields, fields-stand, now-after}
use Rattle.gate_core.proofs.Standing.{parts-sound}
use Rattle.gate_core.proofs.Stepping.{first-state}
use Rattle.gate_core.proofs.whole.Core.of_orders.Goals as goal

pub invariant_of-result : goal.invariant_of-result
invariant_of-result g c =
    let sound = parts-sound 0 c.in_ok-parts.parts c.in_ok-parts.ensures.shaped c.in_ok-parts.ensures.numbers in (
      record { few = omega arith; parts = subst (AreSound 0) (sym c.settle.ensures.now) sound },
      record { few = omega arith; parts = subst (AreSound 0) (sym c.settle.ensures.settled) sound },
    )

pub returns-clause-after : goal.returns-clause-after
returns-clause-after g c =
    let s = c.args.settings.now in
    let fields : CoreFields _ _ = record { parts = c.in_ok-parts.parts; events = 0 } in
    now-after s [] _
    (subst (λ (p : PartsStand). After s [] (record { parts = p; events = 0 })) (sym c.settle.ensures.now)
    (fields-stand s [] fields (first-state s fields holds-first c.in_ok-parts.ensures.parts refl)))
