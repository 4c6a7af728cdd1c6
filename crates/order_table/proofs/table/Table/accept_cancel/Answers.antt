use Rattle.std.proofs.Common.{rules, ◌≡◌, decimal, refl, reverse, ap, ◌∙◌, arith}
use Rattle.std.specs.Prelude.{Some}
use Rattle.std.specs.List.{find}
use Rattle.order_machine.specs.OrderRecord as record_of
use Rattle.order_machine.specs.OrderRecord.{OrderRecord, at}
use Rattle.order_machine.specs.Table.{has_number}
use Rattle.undo_index.proofs.Newest.{newest-there}
use Rattle.undo_index.specs.Newest.{IsNewest}
use Rattle.order_table.specs.Held.{Held, changed, with_number}
use Rattle.undo_orders.specs.Seen.{cancel_of, cancel_seen}
use Rattle.order_table.proofs.Changing.{cancel-as}
use Rattle.order_table.proofs.Counted.{own-number}
use Rattle.order_table.proofs.Named.{item-at}
use Rattle.order_table.proofs.Standing.{by-result, changed-value, on-err, same-counted, same-value}
use Rattle.order_table.proofs.Keeping.{counted-asked}
use Rattle.order_table.proofs.table.Table.accept_cancel.Goals as goal

pub invariant_of-self-inside : goal.invariant_of-self-inside
invariant_of-self-inside g c =
    let os = c.self.inside.orders.now in
    let newest : IsNewest (has_number (decimal c.args.order_id)) os c.in-Some.place = (search rules) in
    let there = item-at os c.in-Some.place newest.inside in
    let was = there.0 in
    let now : OrderRecord = at was was.replaces (Some (cancel_of was c.args.cancelling)) in (
      by-result c.accept_cancel.result c.accept_cancel.ensures.now c.accept_cancel.ensures.err
          (λ written. same-counted refl refl (written was there.1)
          (counted-asked c.self.inside.tokens.now c.self.inside.sums.now os c.in-Some.place was now
          c.self.inside.counted there.1 refl refl refl (omega arith)))
          (λ same. same-counted refl refl same c.self.inside.counted),
      (same-counted refl refl c.accept_cancel.ensures.settled c.self.inside.settled_counted, tt),
    )

pub returns-in_ok-accept_cancel-clause-accepted : goal.returns-in_ok-accept_cancel-clause-accepted
returns-in_ok-accept_cancel-clause-accepted g c = λ o found.
    let os = c.self.inside.orders.now in
    let newest : IsNewest (has_number (decimal c.args.order_id)) os c.in-Some.place = (search rules) in
    let is_found : find (has_number (decimal c.args.order_id)) (reverse os) ≡ Some o =
    ap (λ (h : Held). with_number h c.args.order_id) c.self.view_is ∙ found in
    let there = item-at os c.in-Some.place newest.inside in
    let was = there.0 in
    changed-value os c.self.inside.tokens.now c.self.inside.orders.settled c.self.inside.tokens.settled
    (decimal c.args.order_id) c.in-Some.place was
    (λ (x : OrderRecord). at x x.replaces (Some (cancel_seen x.new.client c.args.order_id c.args.cancelling)))
    (λ x. refl) newest there.1 o is_found
    c.accept_cancel.new.self.now c.accept_cancel.new.self.settled
    (at was was.replaces (Some (cancel_of was c.args.cancelling)))
    (ap (λ (x : record_of.Cancelling). at was was.replaces (Some x))
    (cancel-as was c.args.order_id c.args.cancelling
    (own-number (decimal c.args.order_id) os c.in-Some.place was newest there.1)))
    (c.in_ok-accept_cancel.ensures.now was there.1) c.accept_cancel.ensures.settled
    ∙ ap (changed (at o o.replaces (Some (cancel_seen o.new.client c.args.order_id c.args.cancelling)))) c.self.view_is

pub returns-in_err-accept_cancel-clause-err : goal.returns-in_err-accept_cancel-clause-err
returns-in_err-accept_cancel-clause-err g c =
    on-err c.from_residual.result
    (same-value c.self.inside.orders.now c.self.inside.tokens.now c.self.inside.orders.settled
    c.self.inside.tokens.settled c.accept_cancel.new.self.now c.self.inside.tokens.now
    c.accept_cancel.new.self.settled c.self.inside.tokens.settled
    c.in_err-accept_cancel.ensures.err refl c.accept_cancel.ensures.settled refl
    ∙ c.self.view_is)

pub returns-in_ok-accept_cancel-clause-unknown : goal.returns-in_ok-accept_cancel-clause-unknown
returns-in_ok-accept_cancel-clause-unknown g c = λ none.
    let newest : IsNewest (has_number (decimal c.args.order_id)) c.self.inside.orders.now c.in-Some.place =
    (search rules) in
    absurd (newest-there (has_number (decimal c.args.order_id)) c.self.inside.orders.now c.in-Some.place newest
    (ap (λ (h : Held). with_number h c.args.order_id) c.self.view_is ∙ none))
