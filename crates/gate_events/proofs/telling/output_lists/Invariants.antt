use Rattle.std.proofs.Common.{◌≡◌, map, take}
use Rattle.gate_events.specs.Seen.{batch_seen}
use Rattle.gate_events.specs.Sources.{lists_to}
use Rattle.gate_events.proofs.telling.output_lists.Given as goal

-- those of the batches so far
abbrev pub invariant-loop-batch : goal.invariant-loop-batch
invariant-loop-batch l = l.lists.items ≡ lists_to l.recipient (map batch_seen (take l.batch-index l.batches))
