pub mod Leaving
pub mod Lines
pub mod Links
pub use Rattle.gate_law.specs.fix_fields.Field
pub use Rattle.fix_types.specs.Application
pub use Rattle.gate_law.specs.Sessions
pub use Rattle.gate_law.specs.Settings
pub use Rattle.gate_law.specs.order_law.Messages
pub use Rattle.gate_law.specs.order_law.ouch_codec.Inbound
pub use Rattle.gate_law.specs.session_law.Frames
pub use Rattle.gate_law.specs.session_law.Runs
pub use Rattle.fix_session.specs.session_writing.Written
pub use Rattle.gate_law.specs.soup_session.Calls
pub use Rattle.gate_law.specs.soup_session.Table
pub use Rattle.gate_law.specs.session_law as session_law
pub use Rattle.gate_law.specs.order_law as order_law
pub use Rattle.fix_session.specs.session_writing as session_writing
pub use Rattle.gate_law.specs as gate_law
