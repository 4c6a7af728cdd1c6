pub mod Settings
pub mod Limits
pub mod Events
pub mod Sessions
pub mod Lists
pub mod Outcome
pub mod After
pub mod Due
pub mod Promises
pub mod Sent
pub mod Holds
pub mod Clients
pub use Rattle.order_law.specs.Headline
pub use Rattle.order_law.specs.History
pub use Rattle.order_law.specs.Told
pub use Rattle.soup_session.specs.States
pub use Rattle.soup_session.specs.Table
pub use Rattle.fix_fields.specs as fix_fields
pub use Rattle.fix_stamp.specs as fix_stamp
pub use Rattle.soup_packets.specs as soup_packets
pub use Rattle.session_law.specs.fix_types as fix_types
pub use Rattle.soup_session.specs as soup_session
pub use Rattle.order_law.specs as order_law
pub use Rattle.session_law.specs as session_law
