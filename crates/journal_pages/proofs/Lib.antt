mod Faults
mod Written
mod Spelled
pub mod Listed
pub mod Further
pub mod Numbered
pub mod Judged
mod Put
pub use Rattle.fix_fields.proofs as fix_fields
