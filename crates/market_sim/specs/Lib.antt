pub mod Sim
pub mod Numbers
pub mod Outbound
pub mod Runs
