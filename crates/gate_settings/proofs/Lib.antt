mod Names
pub mod Served
