mod Held
mod Lists
mod Numbers
mod Placing
pub mod Shelving
mod Ordering
mod LivedAlike
