mod Examples
pub mod Shown
pub mod Line
pub mod Sent
