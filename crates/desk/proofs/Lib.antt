mod Starting
mod Again
pub mod Sent
