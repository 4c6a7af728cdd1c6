use Rattle.std.proofs.Common.{◌≡◌, List, reverse, sym, subst}
use Rattle.std.specs.Prelude.{None, MatchOption}
use Rattle.std.specs.List.{find}
use Rattle.undo_index.specs.Newest.{IsNewest}
use Rattle.undo_index.specs.Undoing.{Undoable}
use Rattle.undo_index.proofs.Standing.{led-by}
use Rattle.undo_index.specs.Hints.{LedBy, hint_of}
use Rattle.order_machine.specs.OrderRecord.{OrderRecord}
use Rattle.order_machine.specs.Table.{is_named}
use Rattle.order_table.specs.declared.keys.NameKey.{NameKey}
use Rattle.order_table.specs.Keys.{has_name_key, name_key, same_name}
use Rattle.order_table.proofs.Named.{named-key}
use Rattle.order_table.proofs.order_list.OrderList.named_place.Goals as goal

pub place_of-requires : goal.place_of-requires
place_of-requires g c =
    subst (λ (xs : List OrderRecord). LedBy (hint_of same_name c.self.inside.names c.of-key.result)
    (is_named c.args.client c.args.id.now) xs) (sym c.as_slice.ensures)
    (subst (λ (k : NameKey). LedBy (hint_of same_name c.self.inside.names k)
    (is_named c.args.client c.args.id.now) c.self.inside.orders.now) (sym c.of-key.ensures)
    (led-by same_name has_name_key c.self.inside.names c.self.inside.orders.now (name_key c.args.client c.args.id.now)
    (is_named c.args.client c.args.id.now) c.self.invariant.1.now
    (named-key c.args.client c.args.id.now)))

pub returns : goal.returns
returns g c =
    subst (λ (u : Undoable OrderRecord). MatchOption c.place_of.result
    (find (is_named c.args.client c.args.id.now) (reverse u.now) ≡ None)
    (λ place. IsNewest (is_named c.args.client c.args.id.now) u.now place)) c.self.view_is
    (subst (λ (xs : List OrderRecord). MatchOption c.place_of.result
    (find (is_named c.args.client c.args.id.now) (reverse xs) ≡ None)
    (λ place. IsNewest (is_named c.args.client c.args.id.now) xs place)) c.as_slice.ensures c.place_of.ensures)
