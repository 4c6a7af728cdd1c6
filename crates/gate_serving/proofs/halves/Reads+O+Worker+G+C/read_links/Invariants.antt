use Rattle.std.proofs.Common.{◌≡◌, ◌≤◌}
use Rattle.gate_serving.specs.Lines.{log_of, reads_of}
use Rattle.gate_serving.proofs.Served.{ReadSoFar}
use Rattle.gate_serving.proofs.halves.Reads+O+Worker+G+C.read_links.Given as goal

abbrev pub invariant-loop : goal.invariant-loop
invariant-loop g l = record {
  so_far : ReadSoFar (reads_of l.fn.self.peer) l.link (g.O.Opener.opened l.fn.self.opener)
      (g.O.Opener.opened l.self.opener) l.fn.self.fault l.self.fault
      (log_of g.G.Gate.was_put g.C.Clock.reported l.fn.self.worker)
      (log_of g.G.Gate.was_put g.C.Clock.reported l.self.worker);
  few : l.link ≤ l.counter;
  none_taken : g.G.Gate.was_taken l.self.worker.gate ≡ g.G.Gate.was_taken l.fn.self.worker.gate;
  peer : l.self.peer ≡ l.fn.self.peer;
  steps : l.self.steps ≡ l.fn.self.steps;
}
