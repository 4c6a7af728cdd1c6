pub mod OrderRecord
pub mod Told
pub mod Table
pub mod Machine
pub mod Runs
pub mod Outstanding
pub use Rattle.fix_fields.specs.Field
pub use Rattle.order_law.specs.Headline
pub use Rattle.order_law.specs.History
pub use Rattle.order_law.specs.Lawful
pub use Rattle.order_law.specs.Verdicts
pub use Rattle.fix_fields.specs as fix_fields
pub use Rattle.fixed_point.specs as fixed_point
pub use Rattle.tokens.specs as tokens
pub use Rattle.order_law.specs as order_law
