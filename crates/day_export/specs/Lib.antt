mod Examples
pub mod Exported
pub mod Files
pub mod Forms
pub mod Market
pub mod Rows
pub mod Said
