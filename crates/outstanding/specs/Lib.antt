pub mod Kept
pub mod Marks
pub mod Chaining
pub mod Leading
pub mod Keeping
pub mod KeptInTurns
pub use Rattle.order_law.specs.ouch_codec.Inbound
pub use Rattle.order_law.specs as order_law
