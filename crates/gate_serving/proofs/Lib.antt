mod Served
pub mod Sent
