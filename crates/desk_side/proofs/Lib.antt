pub mod Moves
mod Arranging
pub mod Bits
mod Roomy
mod Telling
pub use Rattle.desk_rings.proofs as desk_rings
