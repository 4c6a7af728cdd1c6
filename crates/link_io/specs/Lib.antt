pub mod Limits
pub mod Writing
pub mod Reading
pub mod Answered
pub use Rattle.link_decoders.specs.Decoding
pub use Rattle.link_decoders.specs.Making
pub use Rattle.gate_law.specs.Events
pub use Rattle.gate_events.specs.Seen
