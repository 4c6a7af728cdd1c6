use Rattle.std.proofs.Common.{◌≡◌, ℕ, length, slice_get, Some}
use Rattle.gate_events.specs.declared.source.Recipient.{Recipient}
use Rattle.desk_side.specs.Places.{recipient_at}
use Rattle.desk_side.proofs.opening.recipients_of.Given as goal

-- those of the places so far
abbrev pub invariant-loop-place : goal.invariant-loop-place
invariant-loop-place l = record {
  count : length l.recipients.items ≡ l.place;
  each : (d : ℕ) (to : Recipient) → slice_get l.recipients.items d ≡ Some to → to ≡ recipient_at l.clients d;
}
