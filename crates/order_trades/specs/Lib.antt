pub mod Marking
pub mod Found
pub mod Held
