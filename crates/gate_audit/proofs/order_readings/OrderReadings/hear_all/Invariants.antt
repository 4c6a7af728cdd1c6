-- What was read in the reports so far.
use Rattle.std.proofs.Common.{◌++◌, List, map, reverse, take}
use Rattle.gate_audit.specs.Pairs.{SaidToClient, said_to}
use Rattle.gate_audit.specs.Read.{ReadOrder}
use Rattle.gate_audit.specs.Passes.{AreRead}
use Rattle.gate_audit.proofs.order_readings.OrderReadings.hear_all.Given as goal

abbrev pub invariant-loop-report : goal.invariant-loop-report
invariant-loop-report l = (os : List ReadOrder) (all : List SaidToClient) → AreRead os all l.fn.self
    → AreRead os (reverse (map (said_to l.client) (take l.report-index l.reports)) ++ all) l.self
