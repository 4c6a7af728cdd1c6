use Rattle.std.proofs.Common.{length}
use Rattle.order_core.proofs.ledger.heard.+report_count.Given as goal

abbrev pub decreases-report_count : goal.decreases-report_count
decreases-report_count l = length l.bodies.now
