pub mod Faults
pub mod Rows
mod Examples
pub mod Waits
pub mod ClientPorts
pub mod Resends
pub mod Standstills
