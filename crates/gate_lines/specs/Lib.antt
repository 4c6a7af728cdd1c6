pub mod Frames
pub mod Layouts
pub mod BatchLines
pub mod Messages
pub mod Packets
pub mod Words
pub mod AuditLines
pub mod Audits
pub mod Scripts
pub mod Status
pub use Rattle.gate_events.specs.Seen
pub use Rattle.gate_law.specs.Holds
pub use Rattle.script_steps.specs.Settings
pub use Rattle.script_steps.specs.Standing
pub use Rattle.wire_streams.specs.Unread
pub use Rattle.gate_audit.specs as gate_audit
pub use Rattle.gate_law.specs as gate_law
pub use Rattle.script_steps.specs as script_steps
pub use Rattle.wire_streams.specs as wire_streams
