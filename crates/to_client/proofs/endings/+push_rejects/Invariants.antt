use Rattle.std.proofs.Common.{length}
use Rattle.to_client.proofs.endings.+push_rejects.Given as goal

abbrev pub decreases-push_rejects : goal.decreases-push_rejects
decreases-push_rejects l = length l.replaces.now
