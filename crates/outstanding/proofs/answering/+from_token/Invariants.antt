use Rattle.std.proofs.Common.{length}
use Rattle.outstanding.proofs.answering.+from_token.Given as goal

abbrev pub decreases-from_token : goal.decreases-from_token
decreases-from_token l = length l.next.now
