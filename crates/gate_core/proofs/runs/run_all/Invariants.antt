use Rattle.std.proofs.Common.{◌≡◌, take, length}
use Rattle.gate_core.specs.Core.{IsAfter, history}
use Rattle.gate_core.proofs.runs.run_all.Given as goal

-- the events so far, each with its batch
abbrev pub invariant-loop-event : goal.invariant-loop-event
invariant-loop-event l = record {
  after : IsAfter l.settings (history (take l.event-index l.events) l.batches.items) l.core;
  same : length l.batches.items ≡ l.event-index;
}
