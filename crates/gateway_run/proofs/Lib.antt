mod Kept
mod Sent
