use Rattle.std.proofs.Common.{◌++◌, List, sym, ap, ◌∙◌}
use Rattle.gate_law.specs.Events.{LinkOut}
use Rattle.gate_events.specs.Seen.{batch_seen}
use Rattle.gate_events.specs.Sources.{output_to, unless_empty}
use Rattle.gate_events.proofs.Sources.{lists-more}
use Rattle.gate_events.proofs.telling.output_lists.Goals as goal

pub loop-batch-preserved : goal.loop-batch-preserved
loop-batch-preserved c =
    c.in_ok-keep_output.ensures
    ∙ ap (λ (lists : List (List LinkOut)). lists
    ++ unless_empty (output_to c.args.recipient (batch_seen c.batch-item.result))) c.loop-batch.invariant
    ∙ sym (lists-more c.args.recipient _ _ c.batch-item.result c.loop-batch-test.true c.batch-item.is)
