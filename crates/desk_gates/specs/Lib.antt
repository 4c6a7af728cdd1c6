pub use Rattle.desk.specs as desk
pub mod Since
