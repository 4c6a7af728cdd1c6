use Rattle.gate_law.specs.Settings.{Settings}
use Rattle.gate_journal.specs.Kept.{kept_in, turns}
use Rattle.std.proofs.Common.{◌≡◌, []}
use Rattle.gate_audit.specs.Auditing.{IsAuditing}
use Rattle.gate_journal.specs.Links.{open_in}
use Rattle.gateway_day.proofs.day.take_file.Given as goal

-- the audit is that of what was given, and so are the links that are up
abbrev pub invariant-loop : goal.invariant-loop
invariant-loop g l = ((s : Settings) → IsAuditing s [] l.initial.audit
    → IsAuditing s (turns (kept_in l.reader.yielded)) l.audit)
    × (l.links.items ≡ open_in (kept_in l.reader.yielded).events)
