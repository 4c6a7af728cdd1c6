mod Examples
pub mod Guard
