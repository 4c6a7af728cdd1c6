use Rattle.undo_index.proofs.Newest.{only-newest, only-none}
use Rattle.undo_index.proofs.found.only.Goals as goal

pub returns-then-is_at : goal.returns-then-is_at
returns-then-is_at g c =
    let there = c.is_at.ensures.yes c.if-is_at.true in
    only-newest (g.Q.Sought.sought c.args.query.now) c.args.items.now c.args.place there.0 c.requires there.1 there.2

pub returns-else-is_at : goal.returns-else-is_at
returns-else-is_at g c = only-none (g.Q.Sought.sought c.args.query.now) c.args.items.now c.args.place c.requires
    (c.is_at.ensures.no c.if-is_at.false)
