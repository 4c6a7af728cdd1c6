mod Recording
mod Turns
pub mod Keeping
pub mod OneMore
mod Overflowing
mod Comparing
mod Holding
pub mod Draining
pub mod Onward
pub mod Sent
mod Ahead
mod Rounding
pub mod ValueSent
