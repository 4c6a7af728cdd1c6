pub mod Recorded
pub mod Agreeing
pub mod Reserved
pub mod Turning
pub mod Settling
pub mod Status
pub mod Ahead
pub use Rattle.desk_side.specs.BatchOutput
pub use Rattle.desk_side.specs.Side
pub use Rattle.desk_side.specs.desk_rings.Rings
pub use Rattle.desk_side.specs.desk_rings.CoreEnds
pub use Rattle.gate_core.specs.Board
pub use Rattle.gate_core.specs.Core
pub use Rattle.gate_core.specs.Targets
pub use Rattle.gate_journal.specs.Kept
pub use Rattle.gate_journal.specs.gate_law.Events
pub use Rattle.gate_journal.specs.gate_law.Holds
pub use Rattle.gate_journal.specs.gate_law.Promises
pub use Rattle.desk_rings.specs as desk_rings
pub use Rattle.desk_side.specs as desk_side
pub use Rattle.gate_core.specs as gate_core
pub use Rattle.gate_journal.specs as gate_journal
