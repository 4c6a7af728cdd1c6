use Rattle.std.proofs.Common.{List, take, decimal, ap, ◌∙◌}
use Rattle.outstanding.specs.declared.asked.AskedMessage.{AskedMessage}
use Rattle.outstanding.specs.Kept.{HeldMessages, is_answered_by, left_by}
use Rattle.outstanding.specs.Marks.{held, unanswered}
use Rattle.outstanding.proofs.Marks.{marks-answer, marks-keep}
use Rattle.outstanding.proofs.messages.AskedMessages.answer.Goals as goal

pub returns-clause-left : goal.returns-clause-left
returns-clause-left c =
    ap unanswered c.answer.ensures
    ∙ marks-answer (is_answered_by c.args.port c.args.heard.now c.args.next.now
    (decimal c.args.order_id) c.args.is_closed) c.self.inside.places.items
    ∙ ap (λ (h : HeldMessages). left_by c.args.port c.args.heard.now c.args.next.now
    (decimal c.args.order_id) c.args.is_closed h.messages) c.self.view_is

pub returns-clause-settled : goal.returns-clause-settled
returns-clause-settled c =
    ap (λ (qs : List AskedMessage). held (take c.self.inside.count qs)) c.answer.ensures
    ∙ marks-keep (is_answered_by c.args.port c.args.heard.now c.args.next.now
    (decimal c.args.order_id) c.args.is_closed) c.self.inside.count c.self.inside.places.items
    ∙ ap (λ (h : HeldMessages). h.settled) c.self.view_is
