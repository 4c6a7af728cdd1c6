use Rattle.std.proofs.Common.{length}
use Rattle.status_page.proofs.ports.+push_alarms.Given as goal

abbrev pub decreases-push_alarms : goal.decreases-push_alarms
decreases-push_alarms l = length l.rows.now
