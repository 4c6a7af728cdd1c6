use Rattle.std.proofs.Common.{◌++◌, List, map, reverse, take}
use Rattle.gate_audit.specs.Counted.{IsOf}
use Rattle.gate_audit.specs.Pairs.{SaidToClient, said_to}
use Rattle.gate_audit.proofs.openings.Openings.hear_all.Given as goal

abbrev pub invariant-loop-report : goal.invariant-loop-report
invariant-loop-report l = (all : List SaidToClient) → IsOf all l.fn.self
    → IsOf (reverse (map (said_to l.client) (take l.report-index l.reports)) ++ all) l.self
