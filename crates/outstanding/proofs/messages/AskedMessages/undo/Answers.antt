use Rattle.std.proofs.Common.{List, take, ap, ◌∙◌}
use Rattle.outstanding.specs.declared.asked.AskedMessage.{AskedMessage}
use Rattle.outstanding.specs.Kept.{HeldMessages}
use Rattle.outstanding.specs.Marks.{held, unanswered}
use Rattle.outstanding.proofs.Marks.{unmarked-held, unmarked-unanswered}
use Rattle.outstanding.proofs.messages.AskedMessages.undo.Goals as goal

pub returns-clause-messages : goal.returns-clause-messages
returns-clause-messages c =
    ap unanswered (c.truncate.ensures ∙ ap (take c.self.inside.count) c.unmark.ensures)
    ∙ unmarked-unanswered c.self.inside.count c.self.inside.places.items
    ∙ ap (λ (h : HeldMessages). h.settled) c.self.view_is

pub returns-clause-settled : goal.returns-clause-settled
returns-clause-settled c =
    ap (λ (qs : List AskedMessage). held (take c.self.inside.count qs))
    (c.truncate.ensures ∙ ap (take c.self.inside.count) c.unmark.ensures)
    ∙ unmarked-held c.self.inside.count c.self.inside.places.items
    ∙ ap (λ (h : HeldMessages). h.settled) c.self.view_is
