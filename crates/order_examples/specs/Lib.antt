pub mod Transcript
pub mod Exchanges
pub mod SeveralReplaces
pub mod Computed
pub mod Lawful
pub mod Outstanding
pub mod AskedLists
pub mod Stated
pub mod Misstated
pub mod AskRows
pub mod VerdictRows
pub mod MarketRows
pub use Rattle.order_law.specs.Headline
pub use Rattle.order_law.specs.History
pub use Rattle.order_law.specs.Told
pub use Rattle.fixed_point.specs as fixed_point
pub use Rattle.tokens.specs as tokens
