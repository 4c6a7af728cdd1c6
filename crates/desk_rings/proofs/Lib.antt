pub mod Places
pub mod Naming
pub mod Sent
pub mod Sizes
mod Rows
