pub mod PuttingBack
pub use Rattle.orders.specs.order_machine.OrderRecord
pub use Rattle.orders.specs.Changes
pub use Rattle.orders.specs.Seen
pub use Rattle.undo_index.specs.Undoing
pub use Rattle.orders.specs as orders
