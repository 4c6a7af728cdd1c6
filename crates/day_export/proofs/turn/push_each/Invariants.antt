use Rattle.std.proofs.Common.{◌≡◌, ◌++◌, take}
use Rattle.std.specs.List.{flat_map}
use Rattle.gate_events.specs.Seen.{link_out_seen}
use Rattle.gate_events.specs.declared.batch.LinkOut.{LinkOut}
use Rattle.day_export.specs.Rows.{out_row}
use Rattle.day_export.proofs.turn.push_each.Given as goal

-- those of what was told so far
abbrev pub invariant-loop-out : goal.invariant-loop-out
invariant-loop-out l =
    l.text.items ≡ l.initial.text.items ++ flat_map (λ (o : LinkOut). out_row l.format l.head (link_out_seen o))
    (take l.out-index l.outs)
