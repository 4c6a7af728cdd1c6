pub mod Own
pub use Rattle.gateway_day.specs.Audits
pub use Rattle.gateway_day.specs.Days
pub use Rattle.gateway_day.specs.Faults
pub use Rattle.gateway_day.specs.Stopped
pub use Rattle.gate_law.specs.Holds
pub use Rattle.gate_lines.specs.gate_audit.gate_journal.Kept
pub use Rattle.gate_lines.specs.gate_audit.Pairs
pub use Rattle.gate_lines.specs.AuditLines
pub use Rattle.journal_file.specs.Said
pub use Rattle.gate_law.specs as gate_law
