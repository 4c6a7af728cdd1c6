use Rattle.std.proofs.Common.{◌≤◌, List, length, refl, sym, ap, ◌∙◌, subst, arith}
use Rattle.undo_index.proofs.Standing.{covered-pushed}
use Rattle.undo_index.specs.Hints.{LeadsTo, hint_of}
use Rattle.order_machine.specs.Table.{GivenToken}
use Rattle.undo_index.specs.Undoing.{Undoable}
use Rattle.tokens.specs.declared.token_key.TokenKey.{TokenKey}
use Rattle.order_table.specs.Keys.{has_token_key}
use Rattle.tokens.specs.TokenKeys.{same_token_key, token_key}
use Rattle.order_table.proofs.Named.{token-leads}
use Rattle.order_table.proofs.Replaces.{replaces-fit, replaces-pushed, replaces-same}
use Rattle.order_table.proofs.Rooms.{room-in-token}
use Rattle.order_table.proofs.token_list.TokenList.push.Goals as goal

pub note-requires : goal.note-requires
note-requires c = record {
  room = (room-in-token c.self.inside.tokens.pushes c.self.inside.texts.room
      c.self.inside.replaces.pushes (subst (λ (u : Undoable GivenToken). 1 ≤ u.pushes) (sym c.self.view_is) c.requires)).1;
}

pub push-requires : goal.push-requires
push-requires c = (room-in-token c.self.inside.tokens.pushes c.self.inside.texts.room c.self.inside.replaces.pushes
    (subst (λ (u : Undoable GivenToken). 1 ≤ u.pushes) (sym c.self.view_is) c.requires)).0

pub count_replacement-requires : goal.count_replacement-requires
count_replacement-requires c = record {
  room = (room-in-token c.self.inside.tokens.pushes c.self.inside.texts.room c.self.inside.replaces.pushes
      (subst (λ (u : Undoable GivenToken). 1 ≤ u.pushes) (sym c.self.view_is) c.requires)).2;
  fits = replaces-fit c.self.inside.replaces.now c.self.inside.tokens.now c.push.new.self.now c.args.given
      c.given.inside.order_id c.self.invariant.1 (omega arith) c.push.ensures.now c.push.ensures.few;
}

pub invariant_of-self : goal.invariant_of-self
invariant_of-self c =
    let own = c.of-key.ensures ∙ ap (λ (t : GivenToken). token_key t.port t.text) c.given.view_is in (
      covered-pushed same_token_key has_token_key c.note.new.self c.self.inside.tokens c.push.new.self c.args.given
          (length c.as_slice-place.result.now)
          (token-leads c.note.new.self c.args.given (length c.as_slice-place.result.now)
          (subst (λ (k : TokenKey). LeadsTo (hint_of same_token_key c.note.new.self k)
          (length c.as_slice-place.result.now)) own c.note.ensures.leads))
          c.push.ensures.settled (c.note.ensures.covered c.self.invariant.0)
          (sym (ap (λ (xs : List GivenToken). length xs) c.as_slice-place.ensures)) c.push.ensures.now,
      replaces-same {counts = c.count_replacement.new.replaces.now} refl c.push.ensures.now
          (replaces-pushed c.self.inside.replaces.now c.count_replacement.new.replaces.now c.self.inside.tokens.now
          c.args.given c.given.inside.order_id c.given.inside.is_replacement c.self.invariant.1 (omega arith)
          (ap (λ (t : GivenToken). t.order) (sym c.given.view_is))
          (ap (λ (t : GivenToken). t.is_replacement) (sym c.given.view_is)) c.count_replacement.ensures.now),
      replaces-same c.count_replacement.ensures.settled c.push.ensures.settled c.self.invariant.2,
    )
