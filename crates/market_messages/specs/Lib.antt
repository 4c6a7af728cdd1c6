pub mod Sides
pub mod Meets
pub mod Rows
pub mod Turns
pub use Rattle.order_machine.specs.fix_fields.Field
pub use Rattle.orders.specs.fix_types.Application
pub use Rattle.orders.specs.order_law.History
pub use Rattle.order_machine.specs.OrderRecord
pub use Rattle.orders.specs.Seen
pub use Rattle.ouch_codec.specs.Parts
pub use Rattle.to_client.specs.Pending
pub use Rattle.to_client.specs.Shows
pub use Rattle.ouch_codec.specs as ouch_codec
