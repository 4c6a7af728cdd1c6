use Rattle.std.proofs.Common.{◌∙◌, map, set, ap, subst, arith}
use Rattle.std.proofs.lemmas.List.{nil_from_length}
use Rattle.outstanding.specs.Chaining.{AreNoted}
use Rattle.outstanding.specs.Marks.{is_given, is_unanswered, unmarked}
use Rattle.outstanding.proofs.Marks.{count-more}
use Rattle.outstanding.proofs.Answered.{unmarked-free, unmarked-given, unmarked-twice, changed-all, changed-once}
use Rattle.outstanding.proofs.Answered.{noted-past}
use Rattle.outstanding.proofs.Answered.{noted-popped}
use Rattle.outstanding.proofs.marking.unmark.Goals as goal

pub loop-place-preserved-then-place-len : goal.loop-place-preserved-then-place-len
loop-place-preserved-then-place-len c =
    let l = c.loop-place in
    let ys = l.messages.items in
    let p = c.in-Some.place in
    record {
      noted = noted-popped c.pop.new.self.items p ys c.unmark_one.new.asked
          (subst (λ ps. AreNoted ps ys) c.in-Some.ensures.items l.invariant.noted)
          (ap is_given c.unmark_one.ensures ∙ unmarked-given c.index_mut.result.now);
      so_far = ap (λ x. map unmarked (set ys p x)) (c.unmark_one.ensures ∙ ap unmarked c.index_mut.ensures.value)
          ∙ changed-once unmarked unmarked-twice c.args.messages.now.items ys p c.index_mut.result.now
          l.invariant.so_far;
      room = omega (
        arith,
        l.invariant.room,
        c.in-Some.ensures.cases,
        count-more is_unanswered ys p c.unmark_one.new.asked,
      );
      messages_fit = l.invariant.messages_fit;
      given_fit = c.pop.ensures.capacity ∙ l.invariant.given_fit;
    }

pub loop-place-preserved : goal.loop-place-preserved
loop-place-preserved c =
    let l = c.loop-place in
    let ys = l.messages.items in
    record {
      noted = noted-past c.pop.new.self.items c.in-Some.place ys (omega (arith, c.len.ensures, c.if-place-len.false))
          (subst (λ ps. AreNoted ps ys) c.in-Some.ensures.items l.invariant.noted);
      so_far = l.invariant.so_far;
      room = omega (arith, l.invariant.room, c.in-Some.ensures.cases);
      messages_fit = l.invariant.messages_fit;
      given_fit = c.pop.ensures.capacity ∙ l.invariant.given_fit;
    }

pub returns-clause-items : goal.returns-clause-items
returns-clause-items c =
    let l = c.loop-place in
    changed-all unmarked unmarked-free c.args.messages.now.items l.messages.items
    (subst (λ ps. AreNoted ps l.messages.items)
    (nil_from_length l.given.items (omega (arith, c.in_default.ensures.cases))) l.invariant.noted)
    l.invariant.so_far
