mod Saying
mod Orders
mod Lists
mod Holding
mod Marks
mod Chaining
mod Answered
mod Walking
pub mod Asking
mod Finding
pub mod InTurns
