use Rattle.std.proofs.KnownBytes.{Keeps-refl}
use Rattle.journal_file.proofs.Inputs.{all-judged, all-read}
use Rattle.journal_audit.proofs.Written.{audited, going-on, no-file}
use Rattle.journal_audit.proofs.audit.audit_file.Goals as goal

pub returns-in-Err-clause-refused : goal.returns-in-Err-clause-refused
returns-in-Err-clause-refused g c = λ two. (
  no-file _ _ c.in-Err.why c.in-Err.ensures (c.tell_unread.ensures.refused two),
  Keeps-refl _,
)

pub returns-in-Err-clause-all_refused : goal.returns-in-Err-clause-all_refused
returns-in-Err-clause-all_refused g c = λ two. all-judged _ _ _
    (no-file _ _ c.in-Err.why c.in-Err.ensures (c.tell_unread.ensures.refused two))

pub returns-in-Ok-clause-audited : goal.returns-in-Ok-clause-audited
returns-in-Ok-clause-audited g c = λ none.
    audited _ _ _ c.in-Ok.read.audit c.in-Ok.read.ending _ _ c.in-Ok.ensures (c.audit_read.ensures.over none)
    (c.audit_read.ensures.written none) (c.audit_read.ensures.run none)

pub returns-in-Ok-clause-all_audited : goal.returns-in-Ok-clause-all_audited
returns-in-Ok-clause-all_audited g c = λ none. all-read _ _ _
    (audited _ _ _ c.in-Ok.read.audit c.in-Ok.read.ending _ _ c.in-Ok.ensures (c.audit_read.ensures.over none)
    (c.audit_read.ensures.written none) (c.audit_read.ensures.run none))

pub returns-in-Ok-clause-refused : goal.returns-in-Ok-clause-refused
returns-in-Ok-clause-refused g c = λ two. (
  going-on _ _ _ c.in-Ok.read.audit c.in-Ok.read.ending c.in-Ok.ensures (c.audit_read.ensures.refused two),
  c.audit_read.ensures.untold two,
)

pub returns-in-Ok-clause-all_refused : goal.returns-in-Ok-clause-all_refused
returns-in-Ok-clause-all_refused g c = λ two. all-judged _ _ _
    (going-on _ _ _ c.in-Ok.read.audit c.in-Ok.read.ending c.in-Ok.ensures (c.audit_read.ensures.refused two))
