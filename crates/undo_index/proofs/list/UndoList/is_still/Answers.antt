use Rattle.std.proofs.Common.{◌≡◌, length, sym, ◌∙◌, subst, eqb-true, arith}
use Rattle.std.specs.Prelude.{vec_len}
use Rattle.undo_index.specs.Undoing.{IsWithin, Undoable}
use Rattle.undo_index.proofs.Putting.{settled-still}
use Rattle.undo_index.proofs.list.UndoList.is_still.Goals as goal

pub returns : goal.returns
returns g c = λ e.
    let none : vec_len c.self.inside.changed ≡ 0 =
    eqb-true (vec_len c.self.inside.changed) 0 (sym c.is_empty.ensures ∙ e) in
    let few : length c.self.inside.changed.items ≡ 0 = omega (arith, none, c.self.inside.changed.ok) in
    subst (λ (u : Undoable g.row.T.Denot). IsWithin u.settled u.now) c.self.view_is
    (settled-still c.self.inside.count c.self.inside.changed.items c.self.inside.items.items few)
