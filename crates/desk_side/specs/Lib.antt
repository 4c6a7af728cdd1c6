pub mod BatchOutput
pub mod Places
pub mod Side
pub mod Opened
pub use Rattle.desk_rings.specs.CoreEnds
pub use Rattle.desk_rings.specs.Made
pub use Rattle.gate_events.specs.Seen
pub use Rattle.desk_rings.specs as desk_rings
