use Rattle.std.proofs.Common.{◌≡◌, ◌%◌, ◌^◌, length}
use Rattle.gate_journal.specs.Kept.{kept_in}
use Rattle.gateway_day.proofs.day_journal.count_events.Given as goal

-- so many events were given
abbrev pub invariant-loop : goal.invariant-loop
invariant-loop g l = l.events ≡ length (kept_in l.reader.yielded).events % 2 ^ 64
