use Rattle.std.proofs.Common.{length}
use Rattle.to_market.proofs.cancels.+push_cancels.Given as goal

abbrev pub decreases-push_cancels : goal.decreases-push_cancels
decreases-push_cancels l = length l.replaces.now
