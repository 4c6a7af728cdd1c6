pub mod LinePlaces
mod Bytes
mod Links
pub mod Written
pub mod Standing
pub mod Changes
pub mod Going
