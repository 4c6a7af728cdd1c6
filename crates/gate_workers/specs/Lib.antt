pub mod Moments
pub mod ReadersWork
pub mod WritersWork
pub mod TickersWork
pub mod SharedWriters
pub mod Steps
pub use Rattle.link_io.specs.Reading
pub use Rattle.link_decoders.specs.Decoding
pub use Rattle.link_io.specs.Writing
pub use Rattle.link_io.specs as link_io
