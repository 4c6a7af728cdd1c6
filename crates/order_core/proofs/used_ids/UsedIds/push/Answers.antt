use Rattle.std.proofs.Common.{◌≡◌, ◌≤◌, ℕ, List, length, sym, ap, ◌∙◌, subst}
use Rattle.undo_index.proofs.Standing.{covered-pushed}
use Rattle.undo_index.specs.Hints.{LeadsTo, hint_of}
use Rattle.undo_index.specs.TextKeys.{same_key, text_key}
use Rattle.undo_index.specs.declared.text_key.TextKey.{TextKey}
use Rattle.order_machine.specs.Table.{UsedId}
use Rattle.undo_index.specs.Undoing.{Undoable}
use Rattle.order_core.specs.UsedKeys.{has_used_key}
use Rattle.order_core.proofs.Used.{room-in, used-leads}
use Rattle.order_core.proofs.used_ids.UsedIds.push.Goals as goal

pub note-requires : goal.note-requires
note-requires g c = record {
  room = (room-in c.self.inside.ids.pushes c.self.inside.keys.room
      (subst (λ (u : Undoable UsedId). 1 ≤ u.pushes) (sym c.self.view_is) c.requires)).1;
}

pub push-requires : goal.push-requires
push-requires g c = (room-in c.self.inside.ids.pushes c.self.inside.keys.room
    (subst (λ (u : Undoable UsedId). 1 ≤ u.pushes) (sym c.self.view_is) c.requires)).0

pub invariant_of-self : goal.invariant_of-self
invariant_of-self g c =
    let place = length c.as_slice-place.result.now in
    covered-pushed same_key has_used_key c.note.new.self c.self.inside.ids c.push.new.self c.args.id place
    (used-leads c.note.new.self c.args.id place
    (subst (λ (k : TextKey). LeadsTo (hint_of same_key c.note.new.self k) place)
    (c.of-key.ensures ∙ ap (λ (bs : List ℕ). text_key c.id.inside.client bs) c.as_slice.ensures.bytes
    ∙ ap (λ (u : UsedId). text_key u.client u.id) c.id.view_is) c.note.ensures.leads))
    c.push.ensures.settled (c.note.ensures.covered c.self.invariant)
    (sym (ap (λ (xs : List UsedId). length xs) c.as_slice-place.ensures)) c.push.ensures.now
