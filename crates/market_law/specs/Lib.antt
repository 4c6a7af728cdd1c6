pub mod Numbers
pub mod Messages
pub mod Machine
pub mod Run
pub mod Said
pub mod Moves
pub mod Rows
pub mod Examples
pub use Rattle.order_law.specs as order_law
