use Rattle.std.proofs.Common.{◌≡◌}
use Rattle.gate_workers.specs.TickersWork.{PutsBehind, client_ticks}
use Rattle.gate_workers.proofs.ticks.tick_clients.Given as goal

abbrev pub invariant-loop-i : goal.invariant-loop-i
invariant-loop-i g l = record {
  puts : PutsBehind g.G.Gate.gave_back (client_ticks l.fn.at l.i) (g.G.Gate.was_put l.fn.gate)
      (g.G.Gate.was_put l.gate);
  none_taken : g.G.Gate.was_taken l.gate ≡ g.G.Gate.was_taken l.fn.gate;
}
