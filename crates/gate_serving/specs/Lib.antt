pub mod Faults
pub mod Lines
pub mod Halves
pub mod Passed
pub use Rattle.gate_workers.specs.ReadersWork
pub use Rattle.gate_workers.specs.WritersWork
pub use Rattle.gate_workers.specs as gate_workers
