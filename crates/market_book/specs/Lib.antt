pub mod Places
pub mod Steps
pub mod Tokens
pub use Rattle.market_law.specs as market_law
