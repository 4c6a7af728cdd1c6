use Rattle.std.proofs.Common.{length}
use Rattle.gateway_watch.proofs.waiting.+orders_at.Given as goal

abbrev pub decreases-orders_at : goal.decreases-orders_at
decreases-orders_at l = length l.ports.now
