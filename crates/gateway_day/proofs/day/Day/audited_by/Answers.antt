use Rattle.std.proofs.Common.{◌≡◌, ◌∙◌, true, false, IfOk, arith, sym, ap, subst}
use Rattle.gate_journal.specs.Kept.{Kept}
use Rattle.desk.specs.Ahead.{IsEnded}
use Rattle.gateway_day.specs.Days.{kept_of}
use Rattle.gateway_day.specs.Audits.{DayState, IsFileAudited, IsFoundOf, IsSeen}
use Rattle.gateway_day.proofs.Audited.{whole-has, written-file}
use Rattle.gateway_day.proofs.day.Day.audited_by.Goals as goal

pub returns-in-Whole-clause-has : goal.returns-in-Whole-clause-has
returns-in-Whole-clause-has g c = subst (λ (d : DayState). IfOk c.audit_whole.result
    (λ day. day.has_day ≡ true → IsFileAudited d.settings day.read.bytes day.pairs.items day.links.items))
    c.self.view_is
    (whole-has c.self.inside.settings c.in-Whole.history c.audit_whole.result c.audit_whole.ensures.found
    c.audit_whole.ensures.has)

pub returns-clause-file : goal.returns-clause-file
returns-clause-file g c =
    let ended : c.self.inside.is_lost ≡ false → IsEnded c.in-Written.history c.self.inside.journal =
    rw c.in-Written.is at c.self.invariant.1 in
    let kept : c.in-Written.history ≡ c.args.self.kept =
    sym (ap kept_of c.in-Written.is) ∙ ap (λ (d : DayState). d.kept) c.self.view_is in
    let file : IfOk c.audit_written.result (λ day. c.self.inside.is_lost ≡ false
    → IsSeen c.self.inside.journal day.read.bytes
    → IsFoundOf c.self.inside.settings c.in-Written.history day.pairs.items day.links.items) =
    written-file c.self.inside.settings c.in-Written.history c.self.inside.journal c.self.inside.is_lost
    c.size_of.result c.audit_written.result (omega arith) c.size_of.ensures ended c.audit_written.ensures.read in
    subst (λ (d : DayState). IfOk c.audit_written.result (λ day. d.is_lost ≡ false → IsSeen d.journal day.read.bytes
    → IsFoundOf d.settings c.args.self.kept day.pairs.items day.links.items)) c.self.view_is
    (subst (λ (k : Kept). IfOk c.audit_written.result (λ day. c.self.inside.is_lost ≡ false
    → IsSeen c.self.inside.journal day.read.bytes
    → IsFoundOf c.self.inside.settings k day.pairs.items day.links.items)) kept file)
