use Rattle.std.proofs.Common.{◌≡◌, length}
use Rattle.gate_law.specs.Settings.{Settings}
use Rattle.gate_law.specs.Events.{History}
use Rattle.gate_journal.specs.Kept.{turns_onto}
use Rattle.gate_journal.specs.Left.{batches_left, events_left}
use Rattle.gate_audit.specs.Auditing.{IsAuditing}
use Rattle.gate_journal.specs.Links.{open_behind}
use Rattle.gateway_day.proofs.day.take_part.Given as goal

-- the audit is that of the turns taken, and those that are left make of it that of all; and so of the links
abbrev pub invariant-loop-event : goal.invariant-loop-event
invariant-loop-event l = ((s : Settings) (h : History) → IsAuditing s h l.initial.audit
    → (m : History) × IsAuditing s m l.audit
    × (turns_onto (events_left l.ahead) (batches_left l.ahead) m
    ≡ turns_onto l.fn.part.events l.fn.part.batches h))
    × (open_behind l.links.items (events_left l.ahead) ≡ open_behind l.initial.links.items l.fn.part.events)

abbrev pub decreases-loop-event : goal.decreases-loop-event
decreases-loop-event l = length (events_left l.ahead)
