mod Kept
mod Crashes
mod GoesOn
mod Read
mod Behind
mod Recent
mod Since
pub mod Keeping
