use Rattle.std.proofs.Common.{◌<◌, ◌++◌, ◌∷◌, List, [], length, sym, ap, ◌∙◌, subst}
use Rattle.std.specs.Prelude.{Some}
use Rattle.orders.specs.order_machine.OrderRecord.{OrderRecord, at}
use Rattle.orders.specs.PutBack.{put_back}
use Rattle.orders.specs.Seen.{replace_of}
use Rattle.undo_index.specs.Undoing.{Undoable}
use Rattle.undo_orders.specs.declared.list.Was.{Was}
use Rattle.undo_orders.proofs.Putting.{kept}
use Rattle.undo_orders.proofs.list.UndoOrders.accept_replace.Goals as goal

pub returns-clause-settled : goal.returns-clause-settled
returns-clause-settled c =
    let earlier = c.in_ok-earlier.earlier in
    let seen = c.index.result.now in
    kept c.self.inside.count c.self.inside.changed.items c.push_reserved.new.self.items c.self.inside.orders.items
    c.args.place earlier seen c.index_mut.result.now c.accept_replace.new.self
    (subst (λ (u : Undoable OrderRecord). c.args.place < length u.now) (sym c.self.view_is) c.requires.inside)
    c.index.ensures c.index_mut.ensures.value
    (λ same. ap (put_back earlier) c.in_ok-accept_replace.ensures.accepted
    ∙ ap (λ (o : OrderRecord). put_back earlier (at o (o.replaces ++ replace_of o c.args.replacing ∷ []) o.cancel))
    (sym same) ∙ c.in_ok-earlier.ensures (seen.replaces ++ replace_of seen c.args.replacing ∷ []) seen.cancel
    ∙ same)
    (c.push_reserved.ensures.items ∙ ap (λ (ws : List Was). ws
    ++ record { place = c.args.place; earlier = earlier } ∷ []) c.in_ok-reserve.ensures.items)
    ∙ ap (λ (u : Undoable OrderRecord). u.settled) c.self.view_is
