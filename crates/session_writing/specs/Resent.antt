-- What is printed once for bodies that are sent again in a row. (FIX 4.4 Volume 2, "Standard Message Header".)
use Rattle.std.specs.Prelude.{◌≡◌, ℕ, List, ◌∷◌, Some}
use Rattle.fix_framing.specs.fix_fields.Field.{Message, field}
use Rattle.fix_stamp.specs.Stamp.{stamp_text}
use Rattle.session_reading.specs.session_law.Frames.{again_fields, kind_text}
use Rattle.session_reading.specs.session_law.declared.kind.Kind.{Kind}
use Rattle.session_writing.specs.Heads.{name_fields}
use Rattle.session_writing.specs.declared.resent_text.ResentText.{ResentText}

-- MsgType (35), SenderCompID (49) and TargetCompID (56) of a frame
abbrev pub start_fields : Kind → List ℕ → List ℕ → Message
start_fields kind gate client = field 35 (kind_text kind) ∷ name_fields gate client

-- SendingTime (52) of a frame that is sent again, PossDupFlag (43), and OrigSendingTime (122)
abbrev pub moment_fields : ℕ → ℕ → Message
moment_fields now first = field 52 (stamp_text now) ∷ again_fields stamp_text (Some first)

-- what is printed is of the type and the first moment that stand beside it, between these two, sent again now
pub record HeadsFit (text : ResentText) (gate client : List ℕ) (now : ℕ) : Type 0 where
  pub front : text.front ≡ start_fields text.kind gate client
  pub moments : text.moments ≡ moment_fields now text.first
