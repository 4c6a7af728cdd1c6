-- What was taken is appended.
use Rattle.std.proofs.Common.{◌≡◌, take}
use Rattle.std.specs.Prelude.{map}
use Rattle.gate_events.specs.Seen.{link_out_seen}
use Rattle.journal_days.specs.Cut.{with_records}
use Rattle.journal_records.specs.Parts.{out_record}
use Rattle.journal_records.proofs.batches.append_outs.Given as goal

abbrev pub invariant-loop-told : goal.invariant-loop-told
invariant-loop-told l = l.out ≡ with_records l.initial.out
    (map (out_record l.fn.write l.fn.close l.fn.at l.fn.source) (map link_out_seen (take l.told-index l.outs)))
