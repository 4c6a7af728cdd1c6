pub mod Endings
pub mod File
pub mod Inputs
pub mod Reader
pub mod Said
pub mod Sum
pub mod Window
pub mod Written
mod Worked
pub use Rattle.gate_journal.specs.Kept
pub use Rattle.journal_days.specs.Cut
pub use Rattle.journal_days.specs.Begun
pub use Rattle.journal_days.specs.Day
pub use Rattle.journal_pages.specs as journal_pages
pub use Rattle.journal_days.specs as journal_days
