use Rattle.std.proofs.Common.{length}
use Rattle.status_page.proofs.json_rows.+push_clients.Given as goal

abbrev pub decreases-push_clients : goal.decreases-push_clients
decreases-push_clients l = length l.rows.now
