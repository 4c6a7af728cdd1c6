-- What the reports so far opened, and what was read in them.
use Rattle.std.proofs.Common.{◌++◌, List, map, reverse, take}
use Rattle.gate_audit.specs.Counted.{IsOf}
use Rattle.gate_audit.specs.Kept.{AreKept}
use Rattle.gate_audit.specs.Pairs.{SaidToClient, said_to}
use Rattle.gate_audit.proofs.told.hear_all.Given as goal

abbrev pub invariant-loop-report : goal.invariant-loop-report
invariant-loop-report l = record {
  opened : (all : List SaidToClient) → IsOf all l.fn.openings
      → IsOf (reverse (map (said_to l.client) (take l.report-index l.reports)) ++ all) l.openings;
  kept : (all : List SaidToClient) → AreKept all l.fn.readings
      → AreKept (reverse (map (said_to l.client) (take l.report-index l.reports)) ++ all) l.readings;
}
