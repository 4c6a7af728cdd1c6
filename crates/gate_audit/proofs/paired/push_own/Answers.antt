use Rattle.std.proofs.Common.{rules, ◌≡◌, ◌∙◌, ◌++◌, Bool, true, false, List, ap, take}
use Rattle.std.specs.Prelude.{◌==◌}
use Rattle.gate_audit.specs.Pairs.{OpenedOrder, orders_of}
use Rattle.gate_audit.specs.Passes.{pairs_with}
use Rattle.gate_audit.proofs.Shelved.{own-more, own-same}
use Rattle.gate_audit.proofs.paired.push_own.Goals as goal
use Rattle.gate_audit.proofs.paired.push_own.Goals.{then-opening-client+in_ok-push_next, else-opening-client}

pub loop-opening-preserved : goal.loop-opening-preserved
loop-opening-preserved c =
    let os : List OpenedOrder = c.args.openings.now in
    let i = c.loop-opening.opening-index in
    let o : OpenedOrder = c.opening-item.result in
    let p : OpenedOrder → Bool = λ (x : OpenedOrder). x.client == c.args.client in
    elim c.if-opening-client.branch [
      | then-opening-client+in_ok-push_next w ↦
          let own : (o.client == c.args.client) ≡ true = search (rules, w.if-opening-client, c.opening.view_is) in
          λ before is. ap (λ v. v.items) w.pairs-is
          ∙ (w.in_ok-push_next.ensures (before ++ orders_of c.args.client (take i os))
          (c.loop-opening.invariant before is)
          ∙ ap (λ (ys : List OpenedOrder). pairs_with ys c.args.fix.now c.args.said.now)
          (own-more p os i o before c.loop-opening-test.true c.opening-item.is own))
      | else-opening-client w ↦
          let other : (o.client == c.args.client) ≡ false = search (rules, w.if-opening-client, c.opening.view_is) in
          λ before is. ap (λ v. v.items) w.pairs-is
          ∙ (c.loop-opening.invariant before is
          ∙ ap (λ (ys : List OpenedOrder). pairs_with ys c.args.fix.now c.args.said.now)
          (own-same p os i o before c.loop-opening-test.true c.opening-item.is other))
    ]
