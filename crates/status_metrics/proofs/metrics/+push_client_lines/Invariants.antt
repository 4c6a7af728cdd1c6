use Rattle.std.proofs.Common.{length}
use Rattle.status_metrics.proofs.metrics.+push_client_lines.Given as goal

abbrev pub decreases-push_client_lines : goal.decreases-push_client_lines
decreases-push_client_lines l = length l.rows.now
