mod Told
mod ClientEvents
mod ClientLinks
mod Parted
mod Growing
mod Taking
mod Closed
mod Asking
mod Messages
mod PortEvents
mod PortLinks
mod Delivered
mod Payloads
mod Judging
mod PortPackets
mod Stepping
mod Settled
pub mod Histories
mod Naming
mod Fields
mod Standing
mod Shown
pub mod Sent
pub use Rattle.soup_session.proofs as soup_session
pub use Rattle.order_core.proofs.order_machine as order_machine
