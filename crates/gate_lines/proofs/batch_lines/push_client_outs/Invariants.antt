-- What was taken is added.
use Rattle.std.proofs.Common.{◌≡◌, ◌++◌, take}
use Rattle.std.specs.Prelude.{map}
use Rattle.std.specs.List.{flat_map}
use Rattle.gate_events.specs.Seen.{link_out_seen}
use Rattle.gate_lines.specs.BatchLines.{shown_client_out}
use Rattle.gate_lines.proofs.batch_lines.push_client_outs.Given as goal

abbrev pub invariant-loop-out : goal.invariant-loop-out
invariant-loop-out l = l.text.items ≡ l.initial.text.items
    ++ flat_map (shown_client_out l.fn.flags l.fn.client) (map link_out_seen (take l.out-index l.outs))
