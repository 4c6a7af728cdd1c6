pub mod Going
mod Parts
mod Places
pub mod Stepping
