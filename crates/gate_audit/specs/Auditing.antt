-- What an audit keeps of the turns so far is what they told.
use Rattle.std.specs.Prelude.{◌≡◌, length}
use Rattle.gate_law.specs.Events.{History}
use Rattle.gate_law.specs.Settings.{Settings}
use Rattle.gate_audit.specs.declared.day_audit.DayAudit.{DayAudit}
use Rattle.gate_audit.specs.Called.{AreHandled}
use Rattle.gate_audit.specs.Counted.{IsOf}
use Rattle.gate_audit.specs.Kept.{AreKept}
use Rattle.gate_audit.specs.Passes.{told_whole}

-- the audit of these turns, by these settings
pub record IsAuditing (s : Settings) (h : History) (x : DayAudit) : Type 0 where
  pub openings : IsOf (told_whole h) x.openings
  pub readings : AreKept (told_whole h) x.readings
  pub ports : AreHandled s h 0 x.ports.items
  pub many : length x.ports.items ≡ length s.ports
