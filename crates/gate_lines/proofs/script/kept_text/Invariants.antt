-- What was taken is printed.
use Rattle.std.proofs.Common.{◌≡◌, take}
use Rattle.std.specs.Prelude.{map}
use Rattle.std.specs.List.{flat_map}
use Rattle.gate_lines.specs.BatchLines.{shown_batch}
use Rattle.gate_events.specs.Seen.{batch_seen}
use Rattle.gate_lines.proofs.script.kept_text.Given as goal

abbrev pub invariant-loop-batch : goal.invariant-loop-batch
invariant-loop-batch l = l.text.items ≡ flat_map (shown_batch l.fn.flags)
    (map batch_seen (take l.batch-index l.batches))
