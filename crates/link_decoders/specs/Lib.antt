pub mod Decoding
pub mod Making
pub use Rattle.gate_law.specs.Events
pub use Rattle.gate_events.specs.Seen
pub use Rattle.fix_framing.specs.Stream
