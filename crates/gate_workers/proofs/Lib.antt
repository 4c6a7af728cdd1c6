mod Telling
mod Run
mod Ticking
mod SoFar
mod Keeping
pub mod Sent
