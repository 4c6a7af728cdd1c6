use Rattle.world_law.proofs.Comings.{tick-after, idle-after}
use Rattle.world_law.proofs.core_laws.ticks_beat_or_close.Goals as goal

pub returns-clause-linked : goal.returns-clause-linked
returns-clause-linked c = tick-after

pub returns-clause-unlinked : goal.returns-clause-unlinked
returns-clause-unlinked c = idle-after
