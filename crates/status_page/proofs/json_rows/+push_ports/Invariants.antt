use Rattle.std.proofs.Common.{length}
use Rattle.status_page.proofs.json_rows.+push_ports.Given as goal

abbrev pub decreases-push_ports : goal.decreases-push_ports
decreases-push_ports l = length l.rows.now
