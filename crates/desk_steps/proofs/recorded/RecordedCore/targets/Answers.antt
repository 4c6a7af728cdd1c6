use Rattle.gate_journal.specs.Kept.{turns}
use Rattle.desk_steps.proofs.recorded.RecordedCore.targets.Goals as goal

pub returns-clause-client : goal.returns-clause-client
returns-clause-client g c = rw (← c.self.view_is)
    (c.targets.ensures.client c.self.inside.settings (turns c.self.inside.history) c.self.invariant)

pub returns-clause-port : goal.returns-clause-port
returns-clause-port g c = rw (← c.self.view_is)
    (c.targets.ensures.port c.self.inside.settings (turns c.self.inside.history) c.self.invariant)

pub returns-clause-named : goal.returns-clause-named
returns-clause-named g c = rw (← c.self.view_is)
    (λ batch holds. c.targets.ensures.named c.self.inside.settings
    (turns c.self.inside.history) batch c.self.invariant holds)
