use Rattle.std.proofs.Common.{◌∙◌, ap, sym}
use Rattle.std.specs.Prelude.{Some}
use Rattle.gateway_run.specs.Own.{source_of_peer}
use Rattle.gateway_run.proofs.ends.Ends.add.Goals as goal

pub keep-requires-clause-puts_own : goal.keep-requires-clause-puts_own
keep-requires-clause-puts_own g c =
    ap (λ t. t.gate.inlet.source) c.line_of-line.ensures.gate
    ∙ (ap (λ i. i.inlet.source) c.new-gate.ensures ∙ (ap (λ i. i.source) c.new-own.ensures
    ∙ (c.is_of.ensures c.if-is_of.true ∙ (c.source_of.ensures ∙ ap source_of_peer (sym c.line_of-line.ensures.peer)))))

pub keep-requires-clause-takes_own : goal.keep-requires-clause-takes_own
keep-requires-clause-takes_own g c =
    c.line_of-line.ensures.shared_writer ∙ c.is_to.ensures c.if-is_to.true
    ∙ ap (λ peer. Some peer) (sym c.line_of-line.ensures.peer)
