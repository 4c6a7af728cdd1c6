pub mod Begun
pub mod Cut
pub mod Counted
pub mod Day
pub mod Judged
pub mod Left
mod Worked
pub mod Apart
pub use Rattle.journal_pages.specs.Ordered
pub use Rattle.journal_pages.specs.Page
pub use Rattle.journal_pages.specs.Record
pub use Rattle.journal_pages.specs.Seen
