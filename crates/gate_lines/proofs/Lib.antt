mod Fields
mod Layouts
mod ToMarket
mod Whole
mod Printing
mod Stepping
pub use Rattle.wire_streams.proofs as wire_streams
