mod Putting
pub mod Keys
pub mod Newest
pub mod Noting
pub mod Standing
mod Rooms
mod Counting
