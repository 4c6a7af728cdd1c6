use Rattle.std.proofs.Common.{◌<◌, List, length, slice_set, sym, ap, ◌∙◌, subst}
use Rattle.undo_index.specs.declared.list.Was.{Was}
use Rattle.undo_index.specs.Undoing.{Undoable, settled_of}
use Rattle.undo_index.proofs.Putting.{changed-once}
use Rattle.undo_index.proofs.list.UndoList.change.Goals as goal

pub returns-clause-settled : goal.returns-clause-settled
returns-clause-settled g c =
    let w : Was g.row.T.Denot = record { place = c.args.place; item = c.replace-was.result } in
    ap (λ (ws : List (Was g.row.T.Denot)). settled_of c.self.inside.count ws
    (slice_set c.self.inside.items.items c.args.place c.replace-was.new.dest)) c.push_reserved.ensures.items
    ∙ changed-once c.self.inside.count c.self.inside.changed.items w c.self.inside.items.items c.replace-was.new.dest
    c.index_mut.result.now
    (subst (λ (u : Undoable g.row.T.Denot). c.args.place < length u.now) (sym c.self.view_is) c.requires.inside)
    (sym (c.replace-was.ensures.value ∙ c.index_mut.ensures.value))
    ∙ ap (λ (u : Undoable g.row.T.Denot). u.settled) c.self.view_is
