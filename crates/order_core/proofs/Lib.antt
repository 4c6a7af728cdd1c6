mod Used
mod Terms
mod Stepped
mod Heard
pub mod LedgerSent
mod Turns
mod Histories
mod Addressed
mod Executing
pub mod Standing
pub mod Sent
pub use Rattle.order_machine.proofs as order_machine
