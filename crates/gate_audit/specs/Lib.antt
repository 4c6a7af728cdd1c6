pub mod Read
pub mod Again
pub mod Called
pub mod Pairs
pub mod Counted
pub mod Passes
pub mod Accepted
pub mod Kept
pub mod Auditing
pub mod Played
pub use Rattle.gate_law.specs.fix_fields.Field
pub use Rattle.gate_events.specs.Seen
pub use Rattle.gate_law.specs.After
pub use Rattle.gate_law.specs.Holds
pub use Rattle.gate_law.specs.Settings
pub use Rattle.order_accounts.specs.Held
pub use Rattle.order_law.specs.Headline
pub use Rattle.order_law.specs.Verdicts
pub use Rattle.gate_core.specs.soup_session.Calls
pub use Rattle.gate_core.specs.soup_session.Table
pub use Rattle.order_law.specs.tokens.TokenText
pub use Rattle.order_law.specs as order_law
pub use Rattle.gate_journal.specs as gate_journal
