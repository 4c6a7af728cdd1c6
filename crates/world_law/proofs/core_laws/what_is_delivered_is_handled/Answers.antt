use Rattle.world_law.proofs.Handled.{delivered-handled, wanted-handled}
use Rattle.world_law.proofs.core_laws.what_is_delivered_is_handled.Goals as goal

pub returns-clause-decoded : goal.returns-clause-decoded
returns-clause-decoded c = delivered-handled

pub returns-clause-number : goal.returns-clause-number
returns-clause-number c = wanted-handled
