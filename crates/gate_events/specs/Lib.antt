pub mod ShortList
pub mod Held
pub mod Seen
pub mod Closing
pub mod Batches
pub mod Sources
