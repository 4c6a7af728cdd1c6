pub mod Bars
pub mod Forms
pub mod Hexadecimal
pub mod Lines
pub mod Login
pub mod MarketLines
pub mod Market
pub mod Names
pub mod Understood
pub mod Words
pub mod WorkedLines
pub mod WorkedMarketLines
pub use Rattle.fix_fields.specs.Reading
pub use Rattle.ouch_codec.specs.Decoding
pub use Rattle.ouch_codec.specs.Letters
pub use Rattle.tokens.specs.TokenText
pub use Rattle.wire_law.specs.Printable
pub use Rattle.ouch_codec.specs as ouch_codec
