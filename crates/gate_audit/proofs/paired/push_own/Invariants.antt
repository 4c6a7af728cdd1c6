-- The pairs of the client's orders so far.
use Rattle.std.proofs.Common.{◌≡◌, ◌++◌, List, take}
use Rattle.gate_audit.specs.Pairs.{OpenedOrder, orders_of}
use Rattle.gate_audit.specs.Passes.{pairs_with}
use Rattle.gate_audit.proofs.paired.push_own.Given as goal

abbrev pub invariant-loop-opening : goal.invariant-loop-opening
invariant-loop-opening l = (before : List OpenedOrder) → l.fn.pairs.items ≡ pairs_with before l.fix l.said
    → l.pairs.items ≡ pairs_with (before ++ orders_of l.client (take l.opening-index l.openings)) l.fix l.said
