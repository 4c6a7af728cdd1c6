pub mod Rings
pub mod Sizes
pub mod CoreEnds
pub mod Ends
pub mod Made
pub use Rattle.gate_events.specs.Sources
