use Rattle.std.proofs.Common.{◌≡◌}
use Rattle.gate_workers.specs.TickersWork.{PutsTicks}
use Rattle.gate_workers.proofs.ticks.ticker.Given as goal

abbrev pub invariant-loop : goal.invariant-loop
invariant-loop g l = record {
  can_next : (goal.iterator-loop g).can_next l.iterator';
  is_finite : (goal.iterator-loop g).is_finite l.iterator';
  puts : PutsTicks g.G.Gate.gave_back l.fn.clients l.fn.ports (g.C.Clock.reported l.fn.clock)
      (g.C.Clock.reported l.clock)
      (g.G.Gate.was_put l.fn.gate) (g.G.Gate.was_put l.gate);
  none_taken : g.G.Gate.was_taken l.gate ≡ g.G.Gate.was_taken l.fn.gate;
}
