-- A frame by what stands round its body. (FIX 4.4 Volume 2, "Standard Message Header".)
use Rattle.std.specs.Prelude.{ℕ, List, [], ◌∷◌}
use Rattle.fix_framing.specs.fix_fields.Field.{Message, field}
use Rattle.session_reading.specs.session_law.declared.frame.Frame.{Frame}
use Rattle.session_writing.specs.declared.head.FrameHead.{FrameHead}

-- the frame of this body
abbrev pub frame_with : FrameHead → Message → Frame
frame_with head body = record {
  number = head.number;
  kind = head.kind;
  body = body;
  at = head.at;
  first = head.first;
}

-- the names of both ends of a session
pub record BothNames : Type 0 where
  pub gate : List ℕ
  pub client : List ℕ

-- their fields in a header: SenderCompID (49), TargetCompID (56)
abbrev pub name_fields : List ℕ → List ℕ → Message
name_fields gate client = field 49 gate ∷ field 56 client ∷ []
