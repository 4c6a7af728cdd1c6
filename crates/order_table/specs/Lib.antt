pub mod Held
pub mod Keys
pub mod KeyLaws
pub mod Names
pub mod Replaces
pub mod Rooms
pub mod Sums
pub use Rattle.undo_orders.specs.orders.order_law.Chain
pub use Rattle.undo_orders.specs.orders.order_law.Life
pub use Rattle.order_machine.specs.OrderRecord
pub use Rattle.order_machine.specs.Table
pub use Rattle.undo_orders.specs.Changes
pub use Rattle.undo_orders.specs.Seen
pub use Rattle.undo_index.specs as undo_index
