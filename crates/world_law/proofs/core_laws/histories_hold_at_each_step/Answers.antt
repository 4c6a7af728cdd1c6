use Rattle.world_law.proofs.Ports.{last-step, lists-step}
use Rattle.world_law.proofs.core_laws.histories_hold_at_each_step.Goals as goal

pub returns-clause-step : goal.returns-clause-step
returns-clause-step c = last-step

pub returns-clause-lists : goal.returns-clause-lists
returns-clause-lists c = lists-step
