-- The orders that the reports so far opened.
use Rattle.std.proofs.Common.{◌++◌, List, map, reverse, take}
use Rattle.gate_audit.specs.Accepted.{AreAccepted}
use Rattle.gate_audit.specs.Pairs.{SaidToClient, said_to}
use Rattle.gate_audit.proofs.accepted.AcceptedOrders.hear_all.Given as goal

abbrev pub invariant-loop-report : goal.invariant-loop-report
invariant-loop-report l = (all : List SaidToClient) → AreAccepted all l.fn.self
    → AreAccepted (reverse (map (said_to l.client) (take l.report-index l.reports)) ++ all) l.self
