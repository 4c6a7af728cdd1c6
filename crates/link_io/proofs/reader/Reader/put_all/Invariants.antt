use Rattle.std.proofs.Common.{◌≡◌, [], None}
use Rattle.link_io.specs.Reading.{HasPut}
use Rattle.link_io.proofs.reader.Reader.put_all.Given as goal

abbrev pub invariant-loop-next : goal.invariant-loop-next
invariant-loop-next g l = record {
  put : HasPut g.D.Decoder.made l.at l.fn.self l.self (g.G.Gate.was_put l.fn.gate) (g.G.Gate.was_put l.gate);
  offered : l.self.offered ≡ None;
  piece : l.self.piece ≡ [];
  limit : l.self.limit ≡ l.fn.self.limit;
  source : g.D.Decoder.source l.self.decoder ≡ g.D.Decoder.source l.fn.self.decoder;
  none_taken : g.G.Gate.was_taken l.gate ≡ g.G.Gate.was_taken l.fn.gate;
}

abbrev pub decreases-loop-next : goal.decreases-loop-next
decreases-loop-next g l = g.D.Decoder.to_make l.self.decoder
