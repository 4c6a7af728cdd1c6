pub mod Judged
pub mod Ordered
pub mod Page
pub mod Pages
pub mod Record
pub mod Seen
mod Worked
pub use Rattle.fix_fields.specs as fix_fields
