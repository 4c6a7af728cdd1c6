mod Filled
pub mod Files
mod Grown
pub mod Inputs
mod One
mod Parted
pub mod Meaning
mod Standing
mod Streaming
mod Summed
