pub mod Command
mod Examples
pub mod Rows
pub mod Seen
pub mod ScriptFlags
pub use Rattle.gate_lines.specs.Scripts
