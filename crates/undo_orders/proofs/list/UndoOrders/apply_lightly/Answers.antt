use Rattle.std.proofs.Common.{◌≡◌, ◌<◌, ◌++◌, ◌∷◌, List, [], length, slice_get, sym, ap, ◌∙◌, subst}
use Rattle.std.specs.Prelude.{Some}
use Rattle.std.proofs.lemmas.Option.{slice_get-get_or}
use Rattle.orders.specs.order_machine.OrderRecord.{OrderRecord}
use Rattle.orders.specs.Changes.{changed_by}
use Rattle.orders.specs.PutBack.{put_back}
use Rattle.undo_index.specs.Undoing.{Undoable}
use Rattle.undo_orders.specs.declared.list.Was.{Was}
use Rattle.undo_orders.proofs.Putting.{kept}
use Rattle.undo_orders.proofs.list.UndoOrders.apply_lightly.Goals as goal

pub returns-clause-settled : goal.returns-clause-settled
returns-clause-settled c =
    let earlier = c.before_lightly-earlier.result in
    let seen = c.index.result.now in
    let inside : c.args.place < length c.self.inside.orders.items =
    subst (λ (u : Undoable OrderRecord). c.args.place < length u.now) (sym c.self.view_is) c.requires.inside in
    let at_seen : slice_get c.self.inside.orders.items c.args.place ≡ Some seen =
    slice_get-get_or c.self.inside.orders.items c.args.place seen inside ∙ ap Some (sym c.index.ensures) in
    let here : slice_get c.args.self.now.now c.args.place ≡ Some seen =
    ap (λ (u : Undoable OrderRecord). slice_get u.now c.args.place) (sym c.self.view_is) ∙ at_seen in
    kept c.self.inside.count c.self.inside.changed.items c.push_reserved.new.self.items c.self.inside.orders.items
    c.args.place earlier seen c.index_mut.result.now c.apply.new.self
    inside c.index.ensures c.index_mut.ensures.value
    (λ same. ap (put_back earlier) c.in_ok-apply.ensures.changed
    ∙ ap (λ (o : OrderRecord). put_back earlier (changed_by c.args.change o)) (sym same)
    ∙ c.before_lightly-earlier.ensures (c.requires.light seen here) ∙ same)
    (c.push_reserved.ensures.items ∙ ap (λ (ws : List Was). ws
    ++ record { place = c.args.place; earlier = earlier } ∷ []) c.in_ok-reserve.ensures.items)
    ∙ ap (λ (u : Undoable OrderRecord). u.settled) c.self.view_is
