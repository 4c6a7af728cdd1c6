pub mod State
pub mod Steps
pub mod Hearing
pub mod Targets
pub mod Expected
pub mod Core
pub mod Board
pub use Rattle.gate_events.specs.Seen
pub use Rattle.gate_law.specs.After
pub use Rattle.gate_law.specs.Events
pub use Rattle.gate_law.specs.Holds
pub use Rattle.gate_law.specs.Promises
pub use Rattle.fix_fields.specs as fix_fields
pub use Rattle.fix_types.specs as fix_types
pub use Rattle.soup_session.specs as soup_session
pub use Rattle.session_law.specs as session_law
pub use Rattle.gate_settings.specs as gate_settings
