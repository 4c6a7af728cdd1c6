use Rattle.soup_session.proofs.Closes.{ends_by_close}
use Rattle.gate_law.proofs.Steps.{holds-first, holds-step, holds-past}
use Rattle.gate_law.proofs.laws.steps_keep_the_promises.Goals as goal

pub returns-clause-first : goal.returns-clause-first
returns-clause-first c = holds-first

pub returns-clause-step : goal.returns-clause-step
returns-clause-step c = holds-step ends_by_close

pub returns-clause-past : goal.returns-clause-past
returns-clause-past c = holds-past
