pub mod Decimal
pub mod Examples
pub mod Price
pub mod Refusal
pub mod Steps
pub mod Worth
