pub mod Seen
pub mod Kept
pub mod Examples
pub use Rattle.gate_law.specs.fix_fields.Field
pub use Rattle.gate_law.specs.Limits
pub use Rattle.soup_session.specs as soup_session
pub use Rattle.to_market.specs as to_market
