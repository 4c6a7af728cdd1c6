pub mod Begun
pub mod Cutting
pub mod Places
pub mod Leading
mod Counting
mod Judged
mod Sides
pub mod Paging
