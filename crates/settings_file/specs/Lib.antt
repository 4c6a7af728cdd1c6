pub mod Rules
pub mod File
pub mod Judged
pub mod Examples
