pub mod Newest
pub mod Counted
mod Rooms
mod Named
mod Changing
mod Standing
mod Summed
mod Keeping
mod Replaces
pub use Rattle.undo_index.proofs as undo_index
