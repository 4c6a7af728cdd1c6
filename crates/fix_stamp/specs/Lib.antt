pub mod Stamp
pub mod Examples
