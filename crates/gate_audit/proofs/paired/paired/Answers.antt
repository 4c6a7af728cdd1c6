use Rattle.std.proofs.Common.{◌∙◌, ℕ, List, ap, sym}
use Rattle.gate_audit.specs.Pairs.{OpenedOrder, orders_of}
use Rattle.gate_audit.specs.Passes.{pairs_with}
use Rattle.gate_audit.specs.Read.{for_clients}
use Rattle.gate_audit.proofs.Batches.{for-more}
use Rattle.gate_audit.proofs.paired.paired.Goals as goal

pub loop-place-preserved : goal.loop-place-preserved
loop-place-preserved c =
    let own : ℕ → List OpenedOrder = λ k. orders_of k c.args.openings.now in
    let n = c.loop-place.place in
    c.in_ok-push_own.ensures (for_clients own n) c.loop-place.invariant
    ∙ sym (ap (λ (os : List OpenedOrder). pairs_with os c.args.fix.now c.args.said.now) (for-more own n))
