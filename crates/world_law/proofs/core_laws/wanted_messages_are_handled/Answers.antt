use Rattle.world_law.proofs.Arrivals.{message-after, message-wanted, message-number}
use Rattle.world_law.proofs.core_laws.wanted_messages_are_handled.Goals as goal

pub returns-clause-handled : goal.returns-clause-handled
returns-clause-handled c = message-after

pub returns-clause-wanted : goal.returns-clause-wanted
returns-clause-wanted c = message-wanted

pub returns-clause-number : goal.returns-clause-number
returns-clause-number c = message-number
