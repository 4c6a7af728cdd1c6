mod Examples
pub mod Html
pub mod Json
pub mod Page
pub mod Words
