pub mod Messages
pub mod Asks
pub mod Verdicts
pub mod Life
pub mod Reading
pub mod Chain
pub mod History
pub mod Lawful
pub mod Told
pub mod Headline
pub use Rattle.wire_law.specs as wire_law
pub use Rattle.fix_fields.specs as fix_fields
pub use Rattle.ouch_codec.specs as ouch_codec
pub use Rattle.fixed_point.specs as fixed_point
pub use Rattle.tokens.specs as tokens
