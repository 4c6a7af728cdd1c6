pub mod Marks
mod Broken
mod Quantities
mod Restoring
pub mod Replacements
mod Answered
pub use Rattle.fix_types.proofs as fix_types
