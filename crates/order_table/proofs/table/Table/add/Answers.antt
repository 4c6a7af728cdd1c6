use Rattle.std.proofs.Common.{◌≡◌, ◌<◌, ◌≤◌, ◌^◌, ◌∷◌, ◌++◌, [], List, length, refl, subst, ap, sym, ◌∙◌, arith}
use Rattle.std.proofs.Common.{length-append}
use Rattle.undo_orders.specs.orders.order_law.History.{Entry}
use Rattle.order_machine.specs.OrderRecord.{OrderRecord}
use Rattle.order_machine.specs.Table.{GivenToken}
use Rattle.order_table.specs.declared.sums.Sums.{Sums}
use Rattle.order_table.specs.Held.{tokens_had}
use Rattle.order_table.proofs.Keeping.{counted-added, counted-longer, same-sums}
use Rattle.order_table.proofs.Standing.{same-counted}
use Rattle.order_table.proofs.Summed.{fits-beside, none-within, one-open, open-most}
use Rattle.order_table.proofs.table.Table.add.Goals as goal

pub invariant_of-self-inside : goal.invariant_of-self-inside
invariant_of-self-inside g c = (
  counted-longer c.self.inside.tokens.now c.self.inside.sums.now c.make_room.new.self.now c.self.inside.orders.now
      c.self.inside.counted c.make_room.ensures.longer c.make_room.ensures.same,
  (same-counted refl c.make_room.ensures.settled refl c.self.inside.settled_counted, tt),
)

pub invariant_of-self-inside-in-Break-branch-2 : goal.invariant_of-self-inside-in-Break-branch-2
invariant_of-self-inside-in-Break-branch-2 g c = (
  same-counted c.reserve_push.ensures.now refl refl
      (counted-longer c.self.inside.tokens.now c.self.inside.sums.now c.make_room.new.self.now c.self.inside.orders.now
      c.self.inside.counted c.make_room.ensures.longer c.make_room.ensures.same),
  (same-counted c.reserve_push.ensures.settled c.make_room.ensures.settled refl c.self.inside.settled_counted, tt),
)

pub invariant_of-self-inside-in-Break-branch-3 : goal.invariant_of-self-inside-in-Break-branch-3
invariant_of-self-inside-in-Break-branch-3 g c = (
  same-counted c.reserve_push.ensures.now refl c.reserve_push-2.ensures.now
      (counted-longer c.self.inside.tokens.now c.self.inside.sums.now c.make_room.new.self.now c.self.inside.orders.now
      c.self.inside.counted c.make_room.ensures.longer c.make_room.ensures.same),
  (
    same-counted c.reserve_push.ensures.settled c.make_room.ensures.settled c.reserve_push-2.ensures.settled
        c.self.inside.settled_counted,
    tt,
  ),
)

pub exchange-requires-clause-within : goal.exchange-requires-clause-within
exchange-requires-clause-within g c = none-within c.none.result _ c.none.ensures

pub exchange-requires-clause-fits : goal.exchange-requires-clause-fits
exchange-requires-clause-fits g c =
    let os = c.self.inside.orders.now in
    let is = c.self.inside.counted in
    let orders : c.push-2.new.self.now ≡ os ++ c.args.order ∷ [] = c.push-2.ensures.now
    ∙ ap (λ (xs : List OrderRecord). xs ++ c.args.order ∷ []) c.in_ok-reserve_push-2.ensures.now in
    let few : length (os ++ c.args.order ∷ []) < 2 ^ 64 = subst (λ (xs : List OrderRecord). length xs < 2 ^ 64) orders
    c.push-2.ensures.few in
    let comes : c.of-becomes.result.still_open ≤ 1 = subst (λ (s : Sums). s.still_open ≤ 1)
    (sym c.of-becomes.ensures.sums) (one-open c.args.order) in
    fits-beside c.self.inside.tokens.now c.make_room.new.self.now os c.client_of-client.result c.none.result
    c.of-becomes.result c.args.order
    (same-sums os c.self.inside.sums.now c.make_room.new.self.now c.make_room.ensures.same is.by_client) is.small
    is.given is.few_tokens c.of-becomes.ensures.sums c.of-becomes.ensures.small
    (let one = c.requires.few in omega (arith, one))
    (omega (arith, comes, few, length-append os (c.args.order ∷ []), open-most os c.client_of-client.result))

pub invariant_of-self-inside-2 : goal.invariant_of-self-inside-2
invariant_of-self-inside-2 g c =
    let tokens : c.push.new.self.now ≡ c.self.inside.tokens.now ++ c.args.given ∷ [] = c.push.ensures.now
    ∙ ap (λ (ts : List GivenToken). ts ++ c.args.given ∷ []) c.in_ok-reserve_push.ensures.now in
    let had : tokens_had c.args.order ≤ 1 = let none : length c.args.order.replaces ≡ 0 =
    ap (λ (qs : List Entry). length qs) c.requires.none in let one = c.requires.few in omega (arith, none, one) in
    let orders : c.push-2.new.self.now ≡ c.self.inside.orders.now ++ c.args.order ∷ [] = c.push-2.ensures.now
    ∙ ap (λ (os : List OrderRecord). os ++ c.args.order ∷ []) c.in_ok-reserve_push-2.ensures.now in (
      same-counted tokens refl orders
          (counted-added c.self.inside.tokens.now c.args.given c.self.inside.sums.now c.make_room.new.self.now
          c.exchange.new.self.now c.self.inside.orders.now c.args.order c.client_of-client.result c.none.result
          c.of-becomes.result c.self.inside.counted c.make_room.ensures.longer c.make_room.ensures.same
          c.in_ok-make_room.ensures.inside c.exchange.ensures.places c.exchange.ensures.now
          c.client_of-client.ensures c.none.ensures c.of-becomes.ensures.sums c.of-becomes.ensures.small had
          (subst (λ (ts : List GivenToken). length ts < 2 ^ 64) tokens c.push.ensures.few)
          (subst (λ (os : List OrderRecord). length os < 2 ^ 64) orders c.push-2.ensures.few)),
      (
        same-counted (c.push.ensures.settled ∙ c.in_ok-reserve_push.ensures.settled)
            (c.exchange.ensures.settled ∙ c.in_ok-make_room.ensures.settled)
            (c.push-2.ensures.settled ∙ c.in_ok-reserve_push-2.ensures.settled) c.self.inside.settled_counted,
        tt,
      ),
    )
