use Rattle.std.proofs.Common.{◌∙◌, map, set, ap, subst, arith}
use Rattle.std.proofs.lemmas.List.{nil_from_length}
use Rattle.outstanding.specs.Chaining.{AreNoted}
use Rattle.outstanding.specs.Marks.{settled_one, is_given}
use Rattle.outstanding.proofs.Answered.{settled_one-free, settled_one-given, settled_one-twice, changed-all}
use Rattle.outstanding.proofs.Answered.{changed-once, noted-past}
use Rattle.outstanding.proofs.Answered.{noted-popped}
use Rattle.outstanding.proofs.marking.settle_marked.Goals as goal

pub loop-place-preserved-then-place-len : goal.loop-place-preserved-then-place-len
loop-place-preserved-then-place-len c =
    let l = c.loop-place in
    let ys = l.messages.items in
    let p = c.in-Some.place in
    record {
      noted = noted-popped c.pop.new.self.items p ys c.settle_one.new.asked
          (subst (λ ps. AreNoted ps ys) c.in-Some.ensures.items l.invariant.noted)
          (ap is_given c.settle_one.ensures ∙ settled_one-given c.index_mut.result.now);
      so_far = ap (λ x. map settled_one (set ys p x)) (c.settle_one.ensures ∙ ap settled_one c.index_mut.ensures.value)
          ∙ changed-once settled_one settled_one-twice c.args.messages.now.items ys p c.index_mut.result.now
          l.invariant.so_far;
      messages_fit = l.invariant.messages_fit;
      given_fit = c.pop.ensures.capacity ∙ l.invariant.given_fit;
    }

pub loop-place-preserved : goal.loop-place-preserved
loop-place-preserved c =
    let l = c.loop-place in
    let ys = l.messages.items in
    record {
      noted = noted-past c.pop.new.self.items c.in-Some.place ys (omega (arith, c.len.ensures, c.if-place-len.false))
          (subst (λ ps. AreNoted ps ys) c.in-Some.ensures.items l.invariant.noted);
      so_far = l.invariant.so_far;
      messages_fit = l.invariant.messages_fit;
      given_fit = c.pop.ensures.capacity ∙ l.invariant.given_fit;
    }

pub returns-clause-items : goal.returns-clause-items
returns-clause-items c =
    let l = c.loop-place in
    changed-all settled_one settled_one-free c.args.messages.now.items l.messages.items
    (subst (λ ps. AreNoted ps l.messages.items)
    (nil_from_length l.given.items (omega (arith, c.in_default.ensures.cases))) l.invariant.noted)
    l.invariant.so_far
