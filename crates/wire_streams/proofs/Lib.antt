mod Cutting
pub mod Given
