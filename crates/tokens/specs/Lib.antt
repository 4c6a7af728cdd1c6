pub mod TokenKeyLaws
pub mod TokenKeys
pub mod TokenText
pub use Rattle.wire_law.specs.Printable
