-- The audit of a script, written.
use Rattle.std.specs.Prelude.{ℕ, List, Option}
use Rattle.std.specs.Io.KnownBytes.{Appends}
use Rattle.gate_law.specs.Events.{History}
use Rattle.gate_law.specs.Holds.{Holds}
use Rattle.gate_audit.specs.gate_journal.Kept.{Kept, turns}
use Rattle.gate_lines.specs.Scripts.{ComesTo}
use Rattle.script_steps.specs.Settings.{fixed}
use Rattle.gate_audit.specs.Pairs.{accepted_pairs}
use Rattle.gate_lines.specs.AuditLines.{shown_audit}

-- what a writer has grew by just the audit of a history of which all that is promised holds
abbrev pub IsAudited : Option (List ℕ) → Option (List ℕ) → Type 0
IsAudited old new = (h : History) × Holds fixed h × Appends old new (shown_audit (accepted_pairs fixed h))

-- the same of the history that the lines of this text come to
abbrev pub IsAuditOf : List ℕ → Option (List ℕ) → Option (List ℕ) → Type 0
IsAuditOf text old new =
    (kept : Kept) × ComesTo text kept × Holds fixed (turns kept)
    × Appends old new (shown_audit (accepted_pairs fixed (turns kept)))
