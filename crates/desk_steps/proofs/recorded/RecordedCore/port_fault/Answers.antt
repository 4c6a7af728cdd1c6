use Rattle.gate_journal.specs.Kept.{turns}
use Rattle.desk_steps.proofs.recorded.RecordedCore.port_fault.Goals as goal

pub returns : goal.returns
returns g c = rw (← c.self.view_is) (c.port_fault.ensures c.self.inside.settings
    (turns c.self.inside.history) c.self.invariant)
