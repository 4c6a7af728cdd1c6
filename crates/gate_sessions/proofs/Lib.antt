mod Bodies
mod ClientCalls
mod Closing
mod OnLinks
mod Places
mod PortCalls
mod PortSends
mod Sending
mod Settling
pub mod Several
