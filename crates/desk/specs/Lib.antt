pub mod Offered
pub mod Replayed
pub use Rattle.desk_steps.specs.Ahead
pub use Rattle.desk_rings.specs.Rings
pub use Rattle.desk_steps.specs.Agreeing
pub use Rattle.desk_steps.specs.Settling
pub use Rattle.desk_steps.specs.Turning
pub use Rattle.desk_steps.specs.gate_journal.Kept
pub use Rattle.gate_law.specs.Holds
pub use Rattle.desk_rings.specs as desk_rings
