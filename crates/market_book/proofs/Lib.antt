pub mod Same
pub mod Lists
pub mod Finding
pub mod Tokens
