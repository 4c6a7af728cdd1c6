use Rattle.std.proofs.Common.{rules}
use Rattle.undo_index.proofs.Newest.{newest-at, newest-none}
use Rattle.undo_index.proofs.found.newest.Goals as goal

pub returns-in-None : goal.returns-in-None
returns-in-None g c = newest-none (g.Q.Sought.sought c.args.query.now) c.args.items.now (search rules)

pub returns-in-Some : goal.returns-in-Some
returns-in-Some g c = (newest-at (g.Q.Sought.sought c.args.query.now) c.args.items.now c.in-Some.behind
    (search rules)).1
