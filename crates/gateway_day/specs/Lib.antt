pub mod Days
pub mod Faults
pub mod Stopped
pub mod Audits
pub use Rattle.gate_law.specs.Holds
pub use Rattle.gate_lines.specs.gate_audit.gate_journal.Kept
pub use Rattle.gate_lines.specs.gate_audit.Pairs
pub use Rattle.gate_lines.specs.AuditLines
pub use Rattle.journal_file.specs.Said
pub use Rattle.gate_law.specs as gate_law
