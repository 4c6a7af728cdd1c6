use Rattle.world_law.proofs.Writing.{written-asked}
use Rattle.world_law.proofs.core_laws.what_is_written_was_asked.Goals as goal

pub returns : goal.returns
returns c = written-asked
