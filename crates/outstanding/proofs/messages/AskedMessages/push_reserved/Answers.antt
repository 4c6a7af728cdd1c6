use Rattle.std.proofs.Common.{◌++◌, ap, ◌∙◌, decimal}
use Rattle.outstanding.specs.Kept.{HeldMessages, kept_from}
use Rattle.outstanding.specs.Marks.{unanswered}
use Rattle.outstanding.proofs.Marks.{unanswered-pushed}
use Rattle.outstanding.proofs.messages.AskedMessages.push_reserved.Goals as goal

pub returns-clause-pushed : goal.returns-clause-pushed
returns-clause-pushed c =
    ap unanswered c.push_each.ensures
    ∙ unanswered-pushed c.self.inside.places.items c.args.port c.args.order_id c.args.messages.now
    ∙ ap (λ (h : HeldMessages). h.messages ++ kept_from c.args.port (decimal c.args.order_id) c.args.messages.now)
    c.self.view_is
