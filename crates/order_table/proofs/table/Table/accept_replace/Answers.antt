use Rattle.std.proofs.Common.{rules, ◌≡◌, ℕ, List, [], ◌∷◌, ◌++◌, decimal, refl, reverse, sym, ap, ◌∙◌, arith, ◌<◌, ◌^◌}
use Rattle.std.proofs.Common.{length, subst, ltb-true}
use Rattle.std.specs.Prelude.{Some}
use Rattle.std.proofs.lemmas.Result.{IfOk-from_err}
use Rattle.std.specs.List.{find, count_by}
use Rattle.undo_orders.specs.orders.order_law.History.{Entry}
use Rattle.order_machine.specs.OrderRecord.{OrderRecord, at}
use Rattle.order_machine.specs.Table.{GivenToken, has_number, is_replacement_of, put}
use Rattle.undo_index.proofs.Newest.{newest-there}
use Rattle.undo_index.specs.Newest.{IsNewest}
use Rattle.order_table.specs.Held.{Held, is_counted, with_number}
use Rattle.undo_orders.specs.Seen.{replace_of, replace_seen}
use Rattle.order_table.proofs.Changing.{replace-as}
use Rattle.order_table.proofs.Newest.{count-reverse}
use Rattle.order_table.proofs.Counted.{all-at, counted-few, one-more, own-number, own-token}
use Rattle.order_table.proofs.Named.{item-at, same-item}
use Rattle.order_table.proofs.Standing.{on-err, replaced-value, same-counted, same-value}
use Rattle.order_table.proofs.Keeping.{counted-replacing}
use Rattle.order_table.proofs.table.Table.accept_replace.Goals as goal

pub accept_replace-requires-clause-room : goal.accept_replace-requires-clause-room
accept_replace-requires-clause-room g c = λ was here.
    let os = c.self.inside.orders.now in
    let newest : IsNewest (has_number (decimal c.args.order_id)) os c.in-Some.place = (search rules) in
    let few = counted-few c.self.inside.tokens.now was
    (all-at (is_counted c.self.inside.tokens.now) os c.in-Some.place was c.self.inside.counted.had here) in
    let own : count_by (is_replacement_of was.new.order) c.self.inside.tokens.now
    ≡ count_by (is_replacement_of (decimal c.args.order_id)) c.args.self.now.tokens =
    ap (λ (order : List ℕ). count_by (is_replacement_of order) c.self.inside.tokens.now)
    (own-number (decimal c.args.order_id) os c.in-Some.place was newest here)
    ∙ sym (count-reverse (is_replacement_of (decimal c.args.order_id)) c.self.inside.tokens.now)
    ∙ ap (λ (h : Held). count_by (is_replacement_of (decimal c.args.order_id)) h.tokens) c.self.view_is in
    let room = c.requires.room in
    omega (arith, few, own, room)

pub accept_replace-requires-clause-few : goal.accept_replace-requires-clause-few
accept_replace-requires-clause-few g c = λ was here.
    let same : was ≡ c.item_at.result.now = same-item c.self.inside.orders.now c.in-Some.place was c.item_at.result.now
    here c.item_at.ensures in
    subst (λ (o : OrderRecord). length o.replaces < 4) (sym same)
    (ltb-true (length c.item_at.result.now.replaces) 4 (sym c.takes_replace.ensures ∙ c.if-takes_replace.true))

pub invariant_of-self-inside-2 : goal.invariant_of-self-inside-2
invariant_of-self-inside-2 g c =
    let os = c.self.inside.orders.now in
    let newest : IsNewest (has_number (decimal c.args.order_id)) os c.in-Some.place = (search rules) in
    let there = item-at os c.in-Some.place newest.inside in
    let was = there.0 in
    let now : OrderRecord = at was (was.replaces ++ replace_of was c.args.replacing ∷ []) was.cancel in
    let pushed : c.push.new.self.now ≡ c.self.inside.tokens.now ++ c.args.given ∷ [] = c.push.ensures.now
    ∙ ap (λ (ts : List GivenToken). ts ++ c.args.given ∷ []) c.in_ok-reserve_push.ensures.now in (
      same-counted pushed refl (c.in_ok-accept_replace.ensures.now was there.1)
          (counted-replacing c.self.inside.tokens.now c.self.inside.sums.now os c.in-Some.place was now
          c.self.inside.counted there.1 refl refl refl c.args.given
          (own-token (decimal c.args.order_id) c.args.given was
          (own-number (decimal c.args.order_id) os c.in-Some.place was newest there.1) c.requires.of_order
          c.requires.is_replacement) (one-more was (replace_of was c.args.replacing))
          (subst (λ (ts : List GivenToken). length ts < 2 ^ 64) pushed c.push.ensures.few)),
      (
        same-counted (c.push.ensures.settled ∙ c.in_ok-reserve_push.ensures.settled) refl
            c.accept_replace.ensures.settled c.self.inside.settled_counted,
        tt,
      ),
    )

pub returns-in_ok-accept_replace-clause-accepted : goal.returns-in_ok-accept_replace-clause-accepted
returns-in_ok-accept_replace-clause-accepted g c = λ o found few.
    let os = c.self.inside.orders.now in
    let newest : IsNewest (has_number (decimal c.args.order_id)) os c.in-Some.place = (search rules) in
    let is_found : find (has_number (decimal c.args.order_id)) (reverse os) ≡ Some o =
    ap (λ (h : Held). with_number h c.args.order_id) c.self.view_is ∙ found in
    let there = item-at os c.in-Some.place newest.inside in
    let was = there.0 in
    replaced-value os c.self.inside.tokens.now c.self.inside.orders.settled c.self.inside.tokens.settled
    (decimal c.args.order_id) c.in-Some.place was
    (λ (x : OrderRecord). at x (x.replaces ++ replace_seen x.new.client c.args.order_id c.args.replacing ∷ []) x.cancel)
    (λ x. refl) newest there.1 o is_found
    c.accept_replace.new.self.now c.accept_replace.new.self.settled
    (at was (was.replaces ++ replace_of was c.args.replacing ∷ []) was.cancel)
    (ap (λ (q : Entry). at was (was.replaces ++ q ∷ []) was.cancel)
    (replace-as was c.args.order_id c.args.replacing
    (own-number (decimal c.args.order_id) os c.in-Some.place was newest there.1)))
    (c.in_ok-accept_replace.ensures.now was there.1) c.accept_replace.ensures.settled
    c.args.given c.push.new.self.now c.push.new.self.settled
    (c.push.ensures.now ∙ ap (λ (ts : List GivenToken). ts ++ c.args.given ∷ []) c.in_ok-reserve_push.ensures.now)
    (c.push.ensures.settled ∙ c.in_ok-reserve_push.ensures.settled)
    ∙ ap (λ (h : Held). record h {
      orders = put
          (at o (o.replaces ++ replace_seen o.new.client c.args.order_id c.args.replacing ∷ []) o.cancel) h.orders;
      tokens
          = c.args.given ∷ h.tokens;
    }) c.self.view_is

pub returns-in_err-reserve_push-clause-err : goal.returns-in_err-reserve_push-clause-err
returns-in_err-reserve_push-clause-err g c =
    on-err c.from_residual.result
    (same-value c.self.inside.orders.now c.self.inside.tokens.now c.self.inside.orders.settled
    c.self.inside.tokens.settled c.self.inside.orders.now c.reserve_push.new.self.now c.self.inside.orders.settled
    c.reserve_push.new.self.settled
    refl c.reserve_push.ensures.now refl c.reserve_push.ensures.settled
    ∙ c.self.view_is)

pub returns-in_err-accept_replace-clause-err : goal.returns-in_err-accept_replace-clause-err
returns-in_err-accept_replace-clause-err g c =
    on-err c.from_residual-in_err-accept_replace.result
    (same-value c.self.inside.orders.now c.self.inside.tokens.now c.self.inside.orders.settled
    c.self.inside.tokens.settled c.accept_replace.new.self.now c.reserve_push.new.self.now
    c.accept_replace.new.self.settled c.reserve_push.new.self.settled
    c.in_err-accept_replace.ensures.err c.in_ok-reserve_push.ensures.now c.accept_replace.ensures.settled
    c.in_ok-reserve_push.ensures.settled
    ∙ c.self.view_is)

pub returns-in_err-reserve_push-clause-accepted : goal.returns-in_err-reserve_push-clause-accepted
returns-in_err-reserve_push-clause-accepted g c = IfOk-from_err c.from_residual.result _ (search rules)

pub returns-in_ok-accept_replace-clause-unknown : goal.returns-in_ok-accept_replace-clause-unknown
returns-in_ok-accept_replace-clause-unknown g c = λ none.
    let newest : IsNewest (has_number (decimal c.args.order_id)) c.self.inside.orders.now c.in-Some.place =
    (search rules) in
    absurd (newest-there (has_number (decimal c.args.order_id)) c.self.inside.orders.now c.in-Some.place newest
    (ap (λ (h : Held). with_number h c.args.order_id) c.self.view_is ∙ none))
