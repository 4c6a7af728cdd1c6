pub mod Basics
pub mod Sound
pub mod Books
pub mod Runs
pub mod Says
pub mod Bounds
pub mod Whole
pub mod Theorems
