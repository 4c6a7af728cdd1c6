-- What was taken is short.
use Rattle.std.proofs.Common.{take}
use Rattle.gate_events.specs.declared.batch.LinkOut.{LinkOut}
use Rattle.gate_events.specs.Seen.{link_out_seen}
use Rattle.journal_records.specs.Whole.{Each, IsShortOut}
use Rattle.journal_records.proofs.fitting.outs_fit.Given as goal

abbrev pub invariant-loop-told : goal.invariant-loop-told
invariant-loop-told l = Each (λ (o : LinkOut). IsShortOut (link_out_seen o)) (take l.told-index l.outs)
