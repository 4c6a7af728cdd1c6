use Rattle.std.proofs.Common.{◌≡◌, ◌<◌, ◌+◌, ◌-◌, ◌∙◌, decimal, length, slice_get, sym, ap, subst, refl, arith}
use Rattle.std.specs.Prelude.{vec_len}
use Rattle.outstanding.specs.Chaining.{Reaches, bucket}
use Rattle.outstanding.specs.Leading.{AreChained}
use Rattle.outstanding.specs.Kept.{is_answered_by}
use Rattle.outstanding.specs.Marks.{marked_by}
use Rattle.outstanding.proofs.Chaining.{KeepsChains, chained-kept, get-there}
use Rattle.outstanding.proofs.Answered.{IsWalked, mark-keeps, walked-all, walked-begins, walked-more}
use Rattle.outstanding.proofs.Walking.{answers-own}
use Rattle.outstanding.proofs.marking.mark.Goals as goal

pub loop-reach-init : goal.loop-reach-init
loop-reach-init c =
    let n = vec_len c.args.chains.now.heads in
    let xs = c.args.messages.now.items in
    let b = bucket n c.args.order_id in
    let test = is_answered_by c.args.port c.args.heard.now c.args.next.now (decimal c.args.order_id) c.args.is_closed in
    let reach : Reaches n xs b c.first-reach.result (length xs) =
    subst (λ ys. Reaches n ys b c.first-reach.result (length ys)) c.deref.ensures.value c.first-reach.ensures.reach in
    record {
      walked = walked-begins (marked_by test) n b
          (answers-own n c.args.port c.args.heard.now c.args.next.now c.args.order_id c.args.is_closed (omega arith))
          xs c.first-reach.result reach c.requires.chained.small;
      inside = omega (arith, reach.below);
      own = λ p x e at. subst (λ m. bucket m x.order_id ≡ bucket m c.args.order_id) (sym c.first-reach.ensures.heads)
          (reach.own p x e at);
      chained = subst (AreChained c.first-reach.new.self) c.deref.ensures.value c.first-reach.ensures.chained;
      noted = c.requires.noted;
      room = omega arith;
      heads = c.first-reach.ensures.heads;
      chains_fit = c.first-reach.ensures.room;
      messages_fit = refl;
      given_fit = refl;
    }

pub next-reach-requires-clause-chained : goal.next-reach-requires-clause-chained
next-reach-requires-clause-chained c =
    let l = c.loop-reach in
    let test = is_answered_by c.args.port c.args.heard.now c.args.next.now (decimal c.args.order_id) c.args.is_closed in
    let keeps : KeepsChains l.messages.items c.mark_at.new.messages.items =
    mark-keeps test l.messages.items c.mark_at.new.messages.items (l.reach - 1)
    (omega (arith, l.invariant.inside, c.loop-reach-test.true)) c.mark_at.ensures.items in
    subst (AreChained l.chains) (sym c.deref-in-loop-reach.ensures.value)
    (chained-kept (vec_len l.chains.heads) l.chains.heads.items l.chains.older.items l.messages.items
    c.mark_at.new.messages.items keeps l.invariant.chained)

pub next-reach-requires-clause-inside : goal.next-reach-requires-clause-inside
next-reach-requires-clause-inside c =
    let l = c.loop-reach in
    let test = is_answered_by c.args.port c.args.heard.now c.args.next.now (decimal c.args.order_id) c.args.is_closed in
    let keeps : KeepsChains l.messages.items c.mark_at.new.messages.items =
    mark-keeps test l.messages.items c.mark_at.new.messages.items (l.reach - 1)
    (omega (arith, l.invariant.inside, c.loop-reach-test.true)) c.mark_at.ensures.items in
    omega (
      arith,
      keeps.long,
      ap length c.deref-in-loop-reach.ensures.value,
      l.invariant.inside,
      c.loop-reach-test.true,
    )

pub loop-reach-preserved : goal.loop-reach-preserved
loop-reach-preserved c =
    let l = c.loop-reach in
    let n = vec_len l.chains.heads in
    let xs = c.args.messages.now.items in
    let ys = l.messages.items in
    let zs = c.mark_at.new.messages.items in
    let p = l.reach - 1 in
    let b = bucket n c.args.order_id in
    let test = is_answered_by c.args.port c.args.heard.now c.args.next.now (decimal c.args.order_id) c.args.is_closed in
    let whole : l.reach ≡ p + 1 = omega (arith, c.loop-reach-test.true) in
    let keeps : KeepsChains ys zs =
    mark-keeps test ys zs p (omega (arith, l.invariant.inside, c.loop-reach-test.true)) c.mark_at.ensures.items in
    let inside : p < length zs = omega (arith, keeps.long, l.invariant.inside, c.loop-reach-test.true) in
    let it = get-there zs p inside in
    let was = keeps.each p it.0 it.1 in
    let own : bucket n it.0.order_id ≡ b = ap (bucket n) was.2 ∙ l.invariant.own p was.0 whole was.1 in
    let reach : Reaches n zs b c.next-reach.result p =
    subst (λ d. Reaches n zs d c.next-reach.result p) own
    (subst (λ qs. Reaches n qs (bucket n it.0.order_id) c.next-reach.result p) c.deref-in-loop-reach.ensures.value
    (c.next-reach.ensures.reach it.0 (ap (λ qs. slice_get qs p) c.deref-in-loop-reach.ensures.value ∙ it.1))) in
    record {
      walked = walked-more (marked_by test) n b
          (answers-own n c.args.port c.args.heard.now c.args.next.now c.args.order_id c.args.is_closed (omega arith))
          xs ys zs p c.next-reach.result (subst (IsWalked (marked_by test) xs ys) whole l.invariant.walked)
          c.mark_at.ensures.items it.0 reach
          (chained-kept n l.chains.heads.items l.chains.older.items ys zs keeps l.invariant.chained).small;
      inside = omega (arith, c.next-reach.ensures.below, inside);
      own = λ q x e at. subst (λ m. bucket m x.order_id ≡ bucket m c.args.order_id) (sym c.next-reach.ensures.heads)
          (reach.own q x e at);
      chained = subst (AreChained c.next-reach.new.self) c.deref-in-loop-reach.ensures.value
          c.next-reach.ensures.chained;
      noted = c.mark_at.ensures.noted;
      room = omega (arith, c.mark_at.ensures.room, l.invariant.room);
      heads = c.next-reach.ensures.heads ∙ l.invariant.heads;
      chains_fit = c.next-reach.ensures.room ∙ l.invariant.chains_fit;
      messages_fit = c.mark_at.ensures.messages_fit ∙ l.invariant.messages_fit;
      given_fit = c.mark_at.ensures.given_fit ∙ l.invariant.given_fit;
    }

pub returns-clause-items : goal.returns-clause-items
returns-clause-items c =
    let l = c.loop-reach in
    let test = is_answered_by c.args.port c.args.heard.now c.args.next.now (decimal c.args.order_id) c.args.is_closed in
    walked-all (marked_by test) c.args.messages.now.items l.messages.items
    (subst (IsWalked (marked_by test) c.args.messages.now.items l.messages.items)
    (let none : l.reach ≡ 0 = omega (arith, c.loop-reach-test.false) in none) l.invariant.walked)
