use Rattle.std.proofs.Common.{sym}
use Rattle.undo_index.proofs.Newest.{newest-any, none-any}
use Rattle.undo_index.proofs.index.HintIndex.contains.Goals as goal

pub returns-in-None : goal.returns-in-None
returns-in-None g c = sym (none-any (g.Q.Sought.sought c.args.query.now) c.args.items.now c.in-None.ensures)

pub returns-in-Some : goal.returns-in-Some
returns-in-Some g c = sym (newest-any (g.Q.Sought.sought c.args.query.now) c.args.items.now _ c.in-Some.ensures)
