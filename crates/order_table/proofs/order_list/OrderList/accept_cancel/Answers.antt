use Rattle.std.proofs.Common.{◌≡◌, ℕ, true, refl, ap, ◌∙◌, subst}
use Rattle.std.specs.Prelude.{Some}
use Rattle.undo_index.proofs.Standing.{covered-same}
use Rattle.undo_index.specs.Hints.{Covered, LeadsTo, hint_of}
use Rattle.order_machine.specs.OrderRecord.{at}
use Rattle.undo_orders.specs.Seen.{cancel_of}
use Rattle.order_table.specs.declared.keys.NameKey.{NameKey}
use Rattle.order_table.specs.Keys.{has_name_key, name_key, same_name}
use Rattle.order_table.specs.Names.{KeepsNamesBut}
use Rattle.order_table.proofs.Changing.{led-changed, led-same}
use Rattle.order_table.proofs.Named.{cancel-names, led-by-either}
use Rattle.order_table.proofs.order_list.OrderList.accept_cancel.Goals as goal

pub invariant_of-self-in_err-accept_cancel : goal.invariant_of-self-in_err-accept_cancel
invariant_of-self-in_err-accept_cancel g c =
    let old = c.self.inside.orders in
    let covered : Covered same_name has_name_key c.reserve.new.self old =
    covered-same same_name has_name_key c.self.inside.names c.reserve.new.self old old c.reserve.ensures.entries
    refl refl c.self.invariant.1 in
    led-same c.self.inside.numbers c.note.new.self old c.accept_cancel.new.self c.in_err-accept_cancel.ensures.err
    c.accept_cancel.ensures.settled (c.self.invariant.0, c.note.ensures.covered covered)

pub invariant_of-self-2 : goal.invariant_of-self-2
invariant_of-self-2 g c =
    let old = c.self.inside.orders in
    let covered : Covered same_name has_name_key c.reserve.new.self old =
    covered-same same_name has_name_key c.self.inside.names c.reserve.new.self old old c.reserve.ensures.entries
    refl refl c.self.invariant.1 in
    let was = c.item_at.result.now in
    let here = c.item_at.ensures in
    let id = c.args.cancelling.message.cl_ord_id in
    let name : c.of-name.result ≡ name_key was.new.client id =
    c.of-name.ensures ∙ ap (λ (n : ℕ). name_key n c.as_slice.result.now) c.client_of-client.ensures
    ∙ ap (name_key was.new.client) c.as_slice.ensures.bytes in
    let keeps : KeepsNamesBut (name_key was.new.client id) was
    (at was was.replaces (Some (cancel_of was c.args.cancelling))) =
    cancel-names was (cancel_of was c.args.cancelling) in
    let was_led : (k : NameKey) → has_name_key k was ≡ true
    → LeadsTo (hint_of same_name c.note.new.self k) c.args.place =
    λ k t. c.note.ensures.keeps k (covered.now k c.args.place was here t) in
    let own : LeadsTo (hint_of same_name c.note.new.self (name_key was.new.client id)) c.args.place =
    subst (λ (q : NameKey). LeadsTo (hint_of same_name c.note.new.self q) c.args.place) name c.note.ensures.leads in
    led-changed c.self.inside.numbers c.note.new.self old c.accept_cancel.new.self c.args.place was
    (at was was.replaces (Some (cancel_of was c.args.cancelling))) here refl
    (λ k t. led-by-either (hint_of same_name c.note.new.self) has_name_key
    (name_key was.new.client id) c.args.place was was_led own k (keeps.names k t))
    (c.in_ok-accept_cancel.ensures.now was here) c.accept_cancel.ensures.settled
    (c.self.invariant.0, c.note.ensures.covered covered)
