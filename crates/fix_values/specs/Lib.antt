pub mod Texts
pub mod Letters
pub mod Reasons
pub mod Formats
pub mod Slots
pub mod FieldValues
pub use Rattle.fix_fields.specs.Field
pub use Rattle.fix_fields.specs as fix_fields
