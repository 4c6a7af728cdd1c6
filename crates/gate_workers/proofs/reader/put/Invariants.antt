use Rattle.std.proofs.Common.{◌≡◌}
use Rattle.link_io.specs.Seen.{event_seen}
use Rattle.gate_workers.proofs.reader.put.Given as goal

abbrev pub invariant-loop : goal.invariant-loop
invariant-loop g l = record {
  can_next : (goal.iterator-loop g).can_next l.iterator';
  is_finite : (goal.iterator-loop g).is_finite l.iterator';
  waiting : event_seen l.waiting ≡ event_seen l.fn.event;
  put : g.G.Gate.was_put l.gate ≡ g.G.Gate.was_put l.fn.gate;
  silent : g.C.Clock.reported l.clock ≡ g.C.Clock.reported l.fn.clock;
  none_taken : g.G.Gate.was_taken l.gate ≡ g.G.Gate.was_taken l.fn.gate;
}
