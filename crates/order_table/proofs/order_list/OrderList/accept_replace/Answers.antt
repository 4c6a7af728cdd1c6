use Rattle.std.proofs.Common.{◌≡◌, ℕ, true, [], ◌∷◌, ◌++◌, refl, ap, ◌∙◌, subst}
use Rattle.undo_index.proofs.Standing.{covered-same}
use Rattle.undo_index.specs.Hints.{Covered, LeadsTo, hint_of}
use Rattle.order_machine.specs.OrderRecord.{at}
use Rattle.undo_orders.specs.Seen.{replace_of}
use Rattle.order_table.specs.declared.keys.NameKey.{NameKey}
use Rattle.order_table.specs.Keys.{has_name_key, name_key, same_name}
use Rattle.order_table.specs.Names.{KeepsNamesBut}
use Rattle.order_table.proofs.Changing.{led-changed, led-same}
use Rattle.order_table.proofs.Named.{replace-names, led-by-either}
use Rattle.order_table.proofs.order_list.OrderList.accept_replace.Goals as goal

pub invariant_of-self-in_err-accept_replace : goal.invariant_of-self-in_err-accept_replace
invariant_of-self-in_err-accept_replace g c =
    let old = c.self.inside.orders in
    let covered : Covered same_name has_name_key c.reserve.new.self old =
    covered-same same_name has_name_key c.self.inside.names c.reserve.new.self old old c.reserve.ensures.entries
    refl refl c.self.invariant.1 in
    led-same c.self.inside.numbers c.note.new.self old c.accept_replace.new.self c.in_err-accept_replace.ensures.err
    c.accept_replace.ensures.settled (c.self.invariant.0, c.note.ensures.covered covered)

pub invariant_of-self-2 : goal.invariant_of-self-2
invariant_of-self-2 g c =
    let old = c.self.inside.orders in
    let covered : Covered same_name has_name_key c.reserve.new.self old =
    covered-same same_name has_name_key c.self.inside.names c.reserve.new.self old old c.reserve.ensures.entries
    refl refl c.self.invariant.1 in
    let was = c.item_at.result.now in
    let here = c.item_at.ensures in
    let id = c.args.replacing.message.cl_ord_id in
    let name : c.of-name.result ≡ name_key was.new.client id =
    c.of-name.ensures ∙ ap (λ (n : ℕ). name_key n c.as_slice.result.now) c.client_of-client.ensures
    ∙ ap (name_key was.new.client) c.as_slice.ensures.bytes in
    let keeps : KeepsNamesBut (name_key was.new.client id) was
    (at was (was.replaces ++ replace_of was c.args.replacing ∷ []) was.cancel) =
    replace-names was (replace_of was c.args.replacing) in
    let was_led : (k : NameKey) → has_name_key k was ≡ true
    → LeadsTo (hint_of same_name c.note.new.self k) c.args.place =
    λ k t. c.note.ensures.keeps k (covered.now k c.args.place was here t) in
    let own : LeadsTo (hint_of same_name c.note.new.self (name_key was.new.client id)) c.args.place =
    subst (λ (q : NameKey). LeadsTo (hint_of same_name c.note.new.self q) c.args.place) name c.note.ensures.leads in
    led-changed c.self.inside.numbers c.note.new.self old c.accept_replace.new.self c.args.place was
    (at was (was.replaces ++ replace_of was c.args.replacing ∷ []) was.cancel) here refl
    (λ k t. led-by-either (hint_of same_name c.note.new.self) has_name_key
    (name_key was.new.client id) c.args.place was was_led own k (keeps.names k t))
    (c.in_ok-accept_replace.ensures.now was here) c.accept_replace.ensures.settled
    (c.self.invariant.0, c.note.ensures.covered covered)
