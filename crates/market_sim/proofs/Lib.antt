pub mod Few
mod Serving
