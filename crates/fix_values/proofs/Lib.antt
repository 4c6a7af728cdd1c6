pub mod Tables
pub mod Lookups
pub mod Numbers
pub mod Inside
pub mod Values
