pub mod Growth
pub mod Held
pub mod Places
pub mod Shelved
pub use Rattle.order_law.specs.Life
pub use Rattle.order_law.specs as order_law
pub use Rattle.ouch_codec.specs as ouch_codec
