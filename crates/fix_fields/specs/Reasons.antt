-- The numbers of the reasons for which a session rejects a message.
use Rattle.std.specs.Prelude.{ℕ}
use Rattle.fix_fields.specs.declared.session_reject_reason.SessionRejectReason.{SessionRejectReason}
use Rattle.fix_fields.specs.declared.session_reject_reason.SessionRejectReason.TheVariants as reasons

-- FIX 4.4 Volume 6, SessionRejectReason (373).
abbrev pub session_reject_number : SessionRejectReason → ℕ
session_reject_number reasons.RequiredTagMissing = 1
session_reject_number reasons.TagWithoutValue = 4
session_reject_number reasons.ValueIsIncorrect = 5
session_reject_number reasons.IncorrectDataFormat = 6
session_reject_number reasons.CompIdProblem = 9
session_reject_number reasons.InvalidMsgType = 11
session_reject_number reasons.TagMoreThanOnce = 13
