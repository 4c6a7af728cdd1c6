-- One turn more for the ports so far.
use Rattle.std.proofs.Common.{◌≡◌, length}
use Rattle.gate_law.specs.Settings.{Settings}
use Rattle.gate_law.specs.Events.{History}
use Rattle.gate_events.specs.Seen.{batch_seen}
use Rattle.gate_journal.specs.Kept.{kept_turn}
use Rattle.gate_audit.specs.Called.{AreHandled, AreStepped}
use Rattle.gate_audit.proofs.day_audit.take_each.Given as goal

abbrev pub invariant-loop-i : goal.invariant-loop-i
invariant-loop-i l = record {
  many : length l.ports.items ≡ length l.fn.ports.items;
  handled : (s : Settings) (h : History) → AreHandled s h 0 l.fn.ports.items
      → AreStepped s (kept_turn l.event (batch_seen l.batch)) h l.i 0 l.ports.items;
}
