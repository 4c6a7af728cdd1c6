use Rattle.std.proofs.KnownBytes.{Keeps-refl}
use Rattle.journal_file.proofs.Inputs.{all-judged, all-read}
use Rattle.journal_audit.proofs.Written.{no-days-file, so-far}
use Rattle.journal_audit.proofs.so_far.audit_so_far.Goals as goal

pub returns-in-Err-clause-refused : goal.returns-in-Err-clause-refused
returns-in-Err-clause-refused g c = λ two. (
  no-days-file _ _ c.in-Err.why c.in-Err.ensures (c.tell_unread.ensures.refused two),
  Keeps-refl _,
)

pub returns-in-Err-clause-all_refused : goal.returns-in-Err-clause-all_refused
returns-in-Err-clause-all_refused g c = λ two. all-judged _ _ _
    (no-days-file _ _ c.in-Err.why c.in-Err.ensures (c.tell_unread.ensures.refused two))

pub returns-in-Ok-clause-audited : goal.returns-in-Ok-clause-audited
returns-in-Ok-clause-audited g c = λ none.
    so-far _ _ _ c.in-Ok.read.audit c.in-Ok.read.ending _ _ c.in-Ok.ensures (c.write_day_audit.ensures.written none)
    (c.write_day_audit.ensures.run none)

pub returns-in-Ok-clause-all_audited : goal.returns-in-Ok-clause-all_audited
returns-in-Ok-clause-all_audited g c = λ none. all-read _ _ _
    (so-far _ _ _ c.in-Ok.read.audit c.in-Ok.read.ending _ _ c.in-Ok.ensures (c.write_day_audit.ensures.written none)
    (c.write_day_audit.ensures.run none))
