pub mod Heads
pub mod Issued
pub mod Keeping
pub mod Resent
pub mod Undoing
pub mod Written
pub use Rattle.fix_framing.specs.fix_fields.Field
pub use Rattle.fix_stamp.specs.Stamp
pub use Rattle.session_reading.specs.session_law.Frames
pub use Rattle.session_reading.specs.session_law.Messages
pub use Rattle.fix_framing.specs.fix_fields.Printed
pub use Rattle.fix_framing.specs.fix_fields.Reading
pub use Rattle.session_reading.specs.session_law.Session
pub use Rattle.session_reading.specs.session_law.Table
pub use Rattle.fix_stamp.specs as fix_stamp
pub use Rattle.fix_framing.specs as fix_framing
