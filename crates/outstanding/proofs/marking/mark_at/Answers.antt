use Rattle.std.proofs.Common.{◌≡◌, ◌∙◌, ◌+◌, length, set, sym, ap, subst, refl, arith}
use Rattle.std.specs.Prelude.{filter}
use Rattle.outstanding.specs.declared.asked.AskedMessage.{AskedMessage}
use Rattle.outstanding.specs.declared.asked.Answer.TheVariants.{Given}
use Rattle.outstanding.specs.Chaining.{AreNoted}
use Rattle.outstanding.specs.Marks.{is_unanswered}
use Rattle.outstanding.proofs.Marks.{count-less}
use Rattle.outstanding.proofs.Answered.{noted-more}
use Rattle.outstanding.proofs.marking.mark_at.Goals as goal

pub push_reserved-requires : goal.push_reserved-requires
push_reserved-requires c =
    let ys = c.args.messages.now.items in
    let x : AskedMessage = record c.index_mut.result.now { answer = Given } in
    let less : length (filter is_unanswered (set ys c.args.place x)) + 1 ≡ length (filter is_unanswered ys) =
    count-less is_unanswered ys c.args.place x c.index.result.now (omega arith)
    (ap is_unanswered (sym c.index.ensures) ∙ (c.is_answered_now.ensures.yes c.if-is_answered_now.true).0) refl in
    omega (arith, less, c.requires.room)

pub returns-then-is_answered_now-clause-noted : goal.returns-then-is_answered_now-clause-noted
returns-then-is_answered_now-clause-noted c =
    let ys = c.args.messages.now.items in
    let x : AskedMessage = record c.index_mut.result.now { answer = Given } in
    subst (λ ps. AreNoted ps (set ys c.args.place x)) (sym c.push_reserved.ensures.items)
    (noted-more c.args.given.now.items c.args.place ys x c.requires.noted)

pub returns-then-is_answered_now-clause-room : goal.returns-then-is_answered_now-clause-room
returns-then-is_answered_now-clause-room c =
    let ys = c.args.messages.now.items in
    let x : AskedMessage = record c.index_mut.result.now { answer = Given } in
    let less : length (filter is_unanswered (set ys c.args.place x)) + 1 ≡ length (filter is_unanswered ys) =
    count-less is_unanswered ys c.args.place x c.index.result.now (omega arith)
    (ap is_unanswered (sym c.index.ensures) ∙ (c.is_answered_now.ensures.yes c.if-is_answered_now.true).0) refl in
    omega (arith, less, c.push_reserved.ensures.len)
