pub mod Judged
pub mod Ranges
pub mod Rules
pub mod Said
