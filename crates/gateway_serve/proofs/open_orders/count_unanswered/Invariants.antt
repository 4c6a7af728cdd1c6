use Rattle.std.proofs.Common.{◌≡◌, ◌≤◌, take}
use Rattle.gateway_serve.specs.Lines.{unanswered_count}
use Rattle.gateway_serve.proofs.open_orders.count_unanswered.Given as goal

abbrev pub invariant-loop-pair : goal.invariant-loop-pair
invariant-loop-pair l = (l.count ≡ unanswered_count (take l.pair-index l.pairs)) × (l.count ≤ l.pair-index)
