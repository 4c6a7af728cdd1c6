pub mod Limits
pub mod Printable
