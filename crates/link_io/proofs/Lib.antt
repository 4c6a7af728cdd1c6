mod Refilling
mod Sending
mod Piecing
pub mod Going
mod Answering
