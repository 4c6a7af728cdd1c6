mod Other
pub mod Telling
pub mod Messages
pub mod Parts
pub mod Links
mod Faults
mod Targets
pub mod Clients
pub mod Counted
mod Sent
pub mod Steps
pub use Rattle.session_law.proofs as session_law
