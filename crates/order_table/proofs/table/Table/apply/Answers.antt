use Rattle.std.proofs.Common.{rules, ◌≡◌, ◌<◌, ◌≤◌, List, length, arith, decimal, refl, reverse, sym, subst, ap}
use Rattle.std.proofs.Common.{◌∙◌, ltb-true, slice_get, slice_set}
use Rattle.std.specs.Prelude.{◌==◌, Some}
use Rattle.std.specs.List.{find}
use Rattle.order_machine.specs.OrderRecord.{OrderRecord}
use Rattle.order_machine.specs.Table.{has_number}
use Rattle.undo_index.specs.Newest.{IsNewest}
use Rattle.order_table.specs.declared.sums.Sums.{Sums}
use Rattle.order_table.specs.Held.{Held, changed, is_placed, tokens_had, with_number}
use Rattle.order_table.specs.Sums.{AreSums, IsExchanged, sums_at, sums_of}
use Rattle.undo_orders.specs.Changes.{Fits, changed_by}
use Rattle.undo_orders.specs.orders.order_law.Life.{is_closed}
use Rattle.order_table.proofs.Changing.{length-written, set-item}
use Rattle.order_table.proofs.Counted.{all-at, change-few, change-new}
use Rattle.order_table.proofs.Standing.{changed-value, on-err, same-counted, same-value}
use Rattle.order_table.proofs.Newest.{same_some}
use Rattle.order_table.proofs.Keeping.{counted-changed}
use Rattle.order_table.proofs.Summed.{fits-beside, open-most, opens-none, sum-at, was-added}
use Rattle.order_table.proofs.table.Table.apply.Goals as goal

pub apply-requires-clause-fits : goal.apply-requires-clause-fits
apply-requires-clause-fits g c = λ w at_place.
    let newest : IsNewest (has_number (decimal c.args.order_id)) c.self.inside.orders.now c.in-Some.place =
    (search rules) in
    c.requires w (sym (ap (λ (h : Held). with_number h c.args.order_id) c.self.view_is) ∙ newest.newest ∙ at_place)

pub item_at-changed-requires : goal.item_at-changed-requires
item_at-changed-requires g c =
    let os = c.self.inside.orders.now in
    let newest : IsNewest (has_number (decimal c.args.order_id)) os c.in-Some.place = (search rules) in
    let was = c.item_at-order.result.now in
    let long : length c.apply.new.self.now ≡ length os =
    ap (λ (xs : List OrderRecord). length xs) (c.in_ok-apply-in-Some.ensures.now was c.item_at-order.ensures)
    ∙ length-written os c.in-Some.place (changed_by c.args.change was) in
    omega (arith, long, newest.inside)

pub exchange-requires-clause-inside : goal.exchange-requires-clause-inside
exchange-requires-clause-inside g c =
    let sums = c.in_ok-reserve-in-Some.ensures.now in
    let os = c.self.inside.orders.now in
    let was = c.item_at-order.result.now in
    let placed : was.new.client < length c.self.inside.sums.now =
    ltb-true was.new.client (length c.self.inside.sums.now) (all-at (is_placed (length c.self.inside.sums.now)) os
    c.in-Some.place was c.self.inside.counted.placed c.item_at-order.ensures) in
    omega (arith, placed, c.client_of-client.ensures, ap (λ (xs : List Sums). length xs) sums)

pub exchange-requires-clause-within : goal.exchange-requires-clause-within
exchange-requires-clause-within g c =
    was-added c.reserve.new.self.now c.self.inside.orders.now c.in-Some.place c.item_at-order.result.now
    c.client_of-client.result c.of-was.result
    (subst (λ (kept : List Sums). AreSums kept c.self.inside.orders.now) (sym c.in_ok-reserve-in-Some.ensures.now)
    c.self.inside.counted.by_client) c.item_at-order.ensures c.client_of-client.ensures c.of-was.ensures.sums

pub exchange-requires-clause-fits : goal.exchange-requires-clause-fits
exchange-requires-clause-fits g c =
    let os = c.self.inside.orders.now in
    let newest : IsNewest (has_number (decimal c.args.order_id)) os c.in-Some.place = (search rules) in
    let was = c.item_at-order.result.now in
    let here = c.item_at-order.ensures in
    let written : c.apply.new.self.now ≡ slice_set os c.in-Some.place (changed_by c.args.change was) =
    c.in_ok-apply-in-Some.ensures.now was here in
    let now : c.item_at-changed.result.now ≡ changed_by c.args.change was =
    set-item os c.in-Some.place was (changed_by c.args.change was) c.item_at-changed.result.now here
    (sym (ap (λ (xs : List OrderRecord). slice_get xs c.in-Some.place) written) ∙ c.item_at-changed.ensures) in
    let fits : Fits c.args.change was = c.requires was
    (sym (ap (λ (h : Held). with_number h c.args.order_id) c.self.view_is) ∙ newest.newest ∙ here) in
    let is = c.self.inside.counted in
    let opens : c.of-becomes.result.still_open ≤ c.of-was.result.still_open =
    subst (λ (s : Sums). s.still_open ≤ c.of-was.result.still_open)
    (sym (c.of-becomes.ensures.sums ∙ ap (λ (x : OrderRecord). sums_of x) now))
    (subst (λ (s : Sums). (sums_of (changed_by c.args.change was)).still_open ≤ s.still_open)
    (sym c.of-was.ensures.sums) (opens-none c.args.change was fits)) in
    let had : tokens_had c.item_at-changed.result.now ≤ tokens_had was =
    subst (λ (x : OrderRecord). tokens_had x ≤ tokens_had was) (sym now) (change-few c.args.change was) in
    fits-beside c.self.inside.tokens.now c.reserve.new.self.now os c.client_of-client.result c.of-was.result
    c.of-becomes.result c.item_at-changed.result.now
    (subst (λ (kept : List Sums). AreSums kept os) (sym c.in_ok-reserve-in-Some.ensures.now) is.by_client) is.small
    is.given is.few_tokens c.of-becomes.ensures.sums c.of-becomes.ensures.small
    (omega (arith, had, is.given, sum-at tokens_had os c.in-Some.place was here))
    (omega (arith, opens, open-most os c.client_of-client.result, is.few_orders))

pub invariant_of-self-inside-in-Some : goal.invariant_of-self-inside-in-Some
invariant_of-self-inside-in-Some g c =
    let os = c.self.inside.orders.now in
    let newest : IsNewest (has_number (decimal c.args.order_id)) os c.in-Some.place = (search rules) in
    let was = c.item_at-order.result.now in
    let here = c.item_at-order.ensures in
    let written : c.apply.new.self.now ≡ slice_set os c.in-Some.place (changed_by c.args.change was) =
    c.in_ok-apply-in-Some.ensures.now was here in
    let now : c.item_at-changed.result.now ≡ changed_by c.args.change was =
    set-item os c.in-Some.place was (changed_by c.args.change was) c.item_at-changed.result.now here
    (sym (ap (λ (xs : List OrderRecord). slice_get xs c.in-Some.place) written) ∙ c.item_at-changed.ensures) in
    let same = ap (λ (x : OrderRecord). x.new) now ∙ change-new c.args.change was in
    let sums = c.in_ok-reserve-in-Some.ensures.now in (
      same-counted refl refl (written ∙ ap (slice_set os c.in-Some.place) (sym now))
          (counted-changed c.self.inside.tokens.now c.self.inside.sums.now os c.in-Some.place was
          c.item_at-changed.result.now c.self.inside.counted here same c.exchange.new.self.now
          c.client_of-client.result c.of-was.result c.of-becomes.result
          (c.exchange.ensures.places ∙ ap (λ (xs : List Sums). length xs) sums)
          (λ other. subst (λ (kept : List Sums). IsExchanged (c.client_of-client.result == other) c.of-was.result
          c.of-becomes.result (sums_at kept other) (sums_at c.exchange.new.self.now other)) sums
          (c.exchange.ensures.now other))
          c.client_of-client.ensures c.of-was.ensures.sums c.of-becomes.ensures.sums c.of-becomes.ensures.small
          (rw now (change-few c.args.change was))),
      (
        same-counted refl (c.exchange.ensures.settled ∙ c.in_ok-reserve-in-Some.ensures.settled) c.apply.ensures.settled
            c.self.inside.settled_counted,
        tt,
      ),
    )

pub returns-in_ok-apply-in-Some-clause-changed : goal.returns-in_ok-apply-in-Some-clause-changed
returns-in_ok-apply-in-Some-clause-changed g c = λ o found.
    let os = c.self.inside.orders.now in
    let newest : IsNewest (has_number (decimal c.args.order_id)) os c.in-Some.place = (search rules) in
    let is_found : find (has_number (decimal c.args.order_id)) (reverse os) ≡ Some o =
    ap (λ (h : Held). with_number h c.args.order_id) c.self.view_is ∙ found in
    let was = c.item_at-order.result.now in
    changed-value os c.self.inside.tokens.now c.self.inside.orders.settled c.self.inside.tokens.settled
    (decimal c.args.order_id) c.in-Some.place was
    (changed_by c.args.change) (change-new c.args.change) newest c.item_at-order.ensures o is_found
    c.apply.new.self.now c.apply.new.self.settled (changed_by c.args.change was) refl
    (c.in_ok-apply-in-Some.ensures.now was c.item_at-order.ensures) c.apply.ensures.settled
    ∙ ap (changed (changed_by c.args.change o)) c.self.view_is

pub returns-in_ok-apply-in-Some-clause-closed : goal.returns-in_ok-apply-in-Some-clause-closed
returns-in_ok-apply-in-Some-clause-closed g c = λ o found.
    let os = c.self.inside.orders.now in
    let newest : IsNewest (has_number (decimal c.args.order_id)) os c.in-Some.place = (search rules) in
    let is_found : find (has_number (decimal c.args.order_id)) (reverse os) ≡ Some o =
    ap (λ (h : Held). with_number h c.args.order_id) c.self.view_is ∙ found in
    let was = c.item_at-order.result.now in
    let here = c.item_at-order.ensures in
    let written : c.apply.new.self.now ≡ slice_set os c.in-Some.place (changed_by c.args.change was) =
    c.in_ok-apply-in-Some.ensures.now was here in
    let now : c.item_at-changed.result.now ≡ changed_by c.args.change was =
    set-item os c.in-Some.place was (changed_by c.args.change was) c.item_at-changed.result.now here
    (sym (ap (λ (xs : List OrderRecord). slice_get xs c.in-Some.place) written) ∙ c.item_at-changed.ensures) in
    let same : was ≡ o = same_some was o (sym (newest.newest ∙ here) ∙ is_found) in
    c.is_closed-closed.ensures ∙ ap (λ (x : OrderRecord). is_closed x.stage) now
    ∙ ap (λ (x : OrderRecord). is_closed (changed_by c.args.change x).stage) same

pub returns-in_err-apply-in-Some-clause-err : goal.returns-in_err-apply-in-Some-clause-err
returns-in_err-apply-in-Some-clause-err g c =
    on-err c.from_residual-in_err-apply-in-Some.result
    (same-value c.self.inside.orders.now c.self.inside.tokens.now c.self.inside.orders.settled
    c.self.inside.tokens.settled c.apply.new.self.now c.self.inside.tokens.now c.apply.new.self.settled
    c.self.inside.tokens.settled
    c.in_err-apply-in-Some.ensures.err refl c.apply.ensures.settled refl
    ∙ c.self.view_is)
