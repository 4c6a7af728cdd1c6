pub mod Seen
pub mod HeldReplaces
pub mod Changes
pub mod EarlierTrades
pub mod PutBack
pub use Rattle.fix_types.specs.NewOrder
pub use Rattle.order_machine.specs.fixed_point.Decimal
pub use Rattle.order_machine.specs.order_law.Asks
pub use Rattle.order_machine.specs.OrderRecord
pub use Rattle.order_machine.specs.tokens.TokenText
pub use Rattle.order_machine.specs.order_law.wire_law.Printable
pub use Rattle.fix_types.specs as fix_types
pub use Rattle.order_machine.specs.order_law as order_law
pub use Rattle.order_machine.specs as order_machine
pub use Rattle.order_trades.specs as order_trades
