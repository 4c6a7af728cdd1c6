use Rattle.std.proofs.Common.{length}
use Rattle.status_metrics.proofs.metrics.+push_port_lines.Given as goal

abbrev pub decreases-push_port_lines : goal.decreases-push_port_lines
decreases-push_port_lines l = length l.rows.now
