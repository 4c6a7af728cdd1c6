pub mod Spelling
pub mod Stream
pub mod Heads
pub mod Lent
pub mod Front
pub mod Worked
pub use Rattle.wire_streams.specs.Buffer
pub use Rattle.wire_streams.specs as wire_streams
