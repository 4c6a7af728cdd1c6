use Rattle.std.proofs.Common.{◌∙◌, List, [], sym, ap, subst}
use Rattle.gate_law.specs.Events.{History}
use Rattle.gate_journal.specs.Kept.{GoOnBy, kept_in, turns}
use Rattle.gate_audit.specs.Auditing.{IsAuditing}
use Rattle.gate_journal.specs.declared.links.OpenLink.{OpenLink}
use Rattle.gate_journal.specs.Links.{open_behind, open_in}
use Rattle.gateway_day.proofs.Back.{open-both}
use Rattle.gateway_day.proofs.day.take_file.Goals as goal

pub loop-preserved : goal.loop-preserved
loop-preserved g c =
    let given : GoOnBy c.loop.reader.yielded c.in-Turns.part c.next.new.self.yielded =
    rw c.in-Turns.is at c.in_ok-part.ensures.given in
    let before = kept_in c.loop.reader.yielded in (
      λ s first. subst (λ (h : History). IsAuditing s h c.take_part.new.audit) (sym given.onto)
          (c.in_ok-take_part-in-Turns.ensures.audit (turns before) s (c.loop.invariant.0 s first)),
      c.in_ok-take_part-in-Turns.ensures.links
          ∙ ap (λ (up : List OpenLink). open_behind up c.in-Turns.part.events) c.loop.invariant.1
          ∙ sym (open-both [] before.events c.in-Turns.part.events) ∙ ap open_in (sym given.told),
    )
