mod Reading
mod Decoded
