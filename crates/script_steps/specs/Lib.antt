pub mod Events
pub mod Frames
pub mod Lines
pub mod Settings
pub mod Standing
pub mod Steps
pub use Rattle.fix_fields.specs.Field
pub use Rattle.gate_events.specs.Seen
pub use Rattle.gate_journal.specs.Kept
pub use Rattle.script_lines.specs.ouch_codec.Decoding
pub use Rattle.script_lines.specs.Names
pub use Rattle.script_lines.specs as script_lines
