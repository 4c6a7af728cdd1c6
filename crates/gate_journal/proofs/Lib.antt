mod Behind
mod Growing
mod Turning
pub mod Parted
pub mod Days
