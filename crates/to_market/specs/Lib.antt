pub mod Refusals
pub mod FieldRows
pub mod NewAsks
pub mod PortsSeen
pub mod Names
pub mod RequestAsks
pub mod TermsSeen
pub mod Asked
pub mod Turns
pub mod Verdict
pub mod NewTurns
pub use Rattle.fix_types.specs.Application
pub use Rattle.fix_types.specs.CancelRequest
pub use Rattle.fix_types.specs.NewOrder
pub use Rattle.fix_types.specs.ReplaceRequest
pub use Rattle.fix_values.specs.Slots
pub use Rattle.order_law.specs.Asks
pub use Rattle.order_law.specs.Headline
pub use Rattle.order_law.specs.History
pub use Rattle.order_law.specs.Verdicts
pub use Rattle.order_law.specs.fix_fields.Field
pub use Rattle.order_law.specs.ouch_codec.Inbound
pub use Rattle.order_machine.specs.OrderRecord
pub use Rattle.order_machine.specs.Runs
pub use Rattle.order_machine.specs.Table
pub use Rattle.order_table.specs.Held
pub use Rattle.ouch_codec.specs.Letters
pub use Rattle.to_client.specs.Shows
pub use Rattle.tokens.specs.TokenText
pub use Rattle.wire_law.specs.Printable
pub use Rattle.fix_types.specs as fix_types
pub use Rattle.order_law.specs as order_law
pub use Rattle.order_table.specs as order_table
pub use Rattle.orders.specs as orders
pub use Rattle.ouch_codec.specs as ouch_codec
pub use Rattle.tokens.specs as tokens
pub use Rattle.wire_law.specs as wire_law
