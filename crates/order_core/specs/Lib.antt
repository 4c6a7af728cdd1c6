pub mod UsedKeys
pub mod UsedKeyLaws
pub mod LedgerState
pub mod Seen
pub mod LedgerMeets
pub mod Executed
mod ExecutedExamples
pub mod State
pub mod Meets
pub mod Turns
pub mod Runs
pub use Rattle.fix_types.specs.Application
pub use Rattle.market_messages.specs.ouch_codec.Inbound
pub use Rattle.market_messages.specs.ouch_codec.Values
pub use Rattle.to_market.specs.order_law.History
pub use Rattle.to_market.specs.order_law.Told
pub use Rattle.to_market.specs.order_table.Sums
pub use Rattle.order_machine.specs.Machine
pub use Rattle.order_machine.specs.OrderRecord
pub use Rattle.order_machine.specs.Table
pub use Rattle.outstanding.specs.order_law.Headline
pub use Rattle.outstanding.specs.order_law.Lawful
pub use Rattle.to_market.specs.PortsSeen
pub use Rattle.to_market.specs.TermsSeen
pub use Rattle.fix_types.specs as fix_types
pub use Rattle.market_messages.specs as market_messages
pub use Rattle.order_machine.specs as order_machine
pub use Rattle.to_market.specs as to_market
