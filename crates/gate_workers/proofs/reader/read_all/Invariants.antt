use Rattle.std.proofs.Common.{◌≡◌, None}
use Rattle.gate_workers.specs.ReadersWork.{HasRead}
use Rattle.gate_workers.proofs.reader.read_all.Given as goal

abbrev pub invariant-loop : goal.invariant-loop
invariant-loop g l = record {
  can_next : (goal.iterator-loop g).can_next l.iterator';
  is_finite : (goal.iterator-loop g).is_finite l.iterator';
  reads : HasRead g.D.Decoder.made l.fn.reader l.reader (g.G.Gate.was_put l.fn.gate) (g.G.Gate.was_put l.gate)
      (g.C.Clock.reported l.fn.clock) (g.C.Clock.reported l.clock) (g.S.Read.remaining l.fn.stream)
      (g.S.Read.remaining l.stream);
  goes_on : l.reader.limit.over ≡ None;
  source : g.D.Decoder.source l.reader.decoder ≡ g.D.Decoder.source l.fn.reader.decoder;
  none_taken : g.G.Gate.was_taken l.gate ≡ g.G.Gate.was_taken l.fn.gate;
}
