use Rattle.std.proofs.Common.{◌≡◌}
use Rattle.gate_workers.specs.TickersWork.{PutsBehind, port_ticks}
use Rattle.gate_workers.proofs.ticks.tick_ports.Given as goal

abbrev pub invariant-loop-i : goal.invariant-loop-i
invariant-loop-i g l = record {
  puts : PutsBehind g.G.Gate.gave_back (port_ticks l.fn.at l.i) (g.G.Gate.was_put l.fn.gate)
      (g.G.Gate.was_put l.gate);
  none_taken : g.G.Gate.was_taken l.gate ≡ g.G.Gate.was_taken l.fn.gate;
}
