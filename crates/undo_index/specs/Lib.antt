pub mod Undoing
pub mod Newest
pub mod Hints
pub mod TextKeys
pub mod KeyLaws
pub mod Counts
pub mod CountLaws
