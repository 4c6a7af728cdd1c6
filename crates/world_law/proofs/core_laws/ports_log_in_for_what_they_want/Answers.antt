use Rattle.world_law.proofs.Comings.{up-after, gone-after}
use Rattle.world_law.proofs.core_laws.ports_log_in_for_what_they_want.Goals as goal

pub returns-clause-up : goal.returns-clause-up
returns-clause-up c = up-after

pub returns-clause-gone : goal.returns-clause-gone
returns-clause-gone c = gone-after
