use Rattle.std.proofs.Common.{◌∷◌}
use Rattle.gate_law.specs.Holds.{Holds}
use Rattle.gate_core.specs.Core.{IsAfter, turn_of}
use Rattle.gate_core.proofs.Fields.{answered-same}
use Rattle.gate_core.proofs.whole.Core.step.Goals as goal

pub returns-clause-after : goal.returns-clause-after
returns-clause-after g c = answered-same c.advance-stepped.result
    (λ batch s before. IsAfter s (turn_of c.args.event.now batch ∷ before) c.advance-stepped.new.self)
    c.args.self.now c.settle.new.self c.settle.ensures.now c.advance-stepped.ensures.after

pub returns-clause-holds : goal.returns-clause-holds
returns-clause-holds g c = answered-same c.advance-stepped.result
    (λ batch s before. Holds s (turn_of c.args.event.now batch ∷ before))
    c.args.self.now c.settle.new.self c.settle.ensures.now c.advance-stepped.ensures.holds
