use Rattle.std.proofs.Common.{List, sym, subst}
use Rattle.undo_index.proofs.Standing.{led-by}
use Rattle.undo_index.specs.Hints.{LedBy, hint_of}
use Rattle.undo_index.specs.TextKeys.{same_key, text_key}
use Rattle.undo_index.specs.declared.text_key.TextKey.{TextKey}
use Rattle.order_machine.specs.Table.{UsedId, is_same_id}
use Rattle.order_core.specs.UsedKeys.{has_used_key}
use Rattle.order_core.proofs.Used.{used-key}
use Rattle.order_core.proofs.used_ids.UsedIds.is_used.Goals as goal

pub contains-requires : goal.contains-requires
contains-requires g c =
    let id = c.as_slice-id.result.now in
    subst (λ (xs : List UsedId). LedBy (hint_of same_key c.self.inside.keys c.of-key.result)
    (is_same_id c.args.client id) xs) (sym c.as_slice.ensures)
    (subst (λ (k : TextKey). LedBy (hint_of same_key c.self.inside.keys k)
    (is_same_id c.args.client id) c.self.inside.ids.now) (sym c.of-key.ensures)
    (led-by same_key has_used_key c.self.inside.keys c.self.inside.ids.now (text_key c.args.client id)
    (is_same_id c.args.client id) c.self.invariant.now (used-key c.args.client id)))
