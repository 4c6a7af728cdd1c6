pub mod Buffer
pub mod Pieces
pub mod Unread
