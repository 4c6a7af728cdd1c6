pub mod Requests
pub mod Terms
pub mod NewOrder
pub mod CancelRequest
pub mod ReplaceRequest
pub mod Report
pub mod CancelReject
pub mod BusinessReject
pub mod Application
pub use Rattle.fix_values.specs.Formats
pub use Rattle.fix_values.specs.Slots
pub use Rattle.fix_values.specs.fix_fields as fix_fields
pub use Rattle.fix_values.specs as fix_values
