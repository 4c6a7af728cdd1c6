mod Examples
pub mod Metrics
pub mod Numbers
