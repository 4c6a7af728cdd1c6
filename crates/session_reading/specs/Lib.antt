pub mod Judged
pub mod Due
pub use Rattle.fix_types.specs.fix_fields.Field
pub use Rattle.session_law.specs.Formats
pub use Rattle.session_law.specs.Session
pub use Rattle.session_law.specs.Table
pub use Rattle.fix_types.specs as fix_types
pub use Rattle.session_law.specs as session_law
