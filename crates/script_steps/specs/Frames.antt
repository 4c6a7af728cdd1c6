-- The frame of a client's message in a script.
--
-- Source: FIX 4.4 Volume 2, "Standard Message Header".
use Rattle.std.specs.Prelude.{ℕ, List, [], ◌∷◌, ◌++◌, take, drop, codes, if◌then◌else◌}
use Rattle.fix_stamp.specs.Stamp.{stamp_text}
use Rattle.fix_framing.specs.Frame.{frame_text}
use Rattle.fix_fields.specs.Field.{Message, field, has}
use Rattle.gate_core.specs.session_law.Messages.{number_as_field}
use Rattle.script_lines.specs.declared.client.Client.{Client}
use Rattle.script_lines.specs.Names.{name_of_client}

-- MsgSeqNum (34), unless the line gives one
abbrev pub with_sequence_number : Message → ℕ → Message
with_sequence_number fields number = if has 34 fields then [] else number_as_field 34 number ∷ []

-- what is added behind the first field, which is MsgType: who sends it, to whom, its number, its moment
abbrev pub header : Client → Message → ℕ → ℕ → Message
header client fields number at =
    field 49 (name_of_client client) ∷ field 56 (codes "GATE")
    ∷ (with_sequence_number fields number ++ field 52 (stamp_text at) ∷ [])

-- all fields from MsgType on
abbrev pub headed : Client → Message → ℕ → ℕ → Message
headed client fields number at = take 1 fields ++ (header client fields number at ++ drop 1 fields)

-- the bytes of the frame
unfoldable pub script_frame : Client → Message → ℕ → ℕ → List ℕ
script_frame client fields number at = frame_text (headed client fields number at)
