use Rattle.std.proofs.Common.{rules}
use Rattle.link_io.specs.Writing.{unwritten}
use Rattle.link_io.proofs.Piecing.{sends_answered, sends_behind, sent_again}
use Rattle.link_io.proofs.writer.BatchWriter.write_held.Goals as goal

pub loop-self-preserved : goal.loop-self-preserved
loop-self-preserved g c = record {
  sent = sent_again (unwritten c.args.self.now) (unwritten c.loop-self.self) (unwritten c.write_piece.new.self)
      (g.W.Write.contents c.args.stream.now) (g.W.Write.contents c.loop-self.stream)
      (g.W.Write.contents c.write_piece.new.stream) c.loop-self.invariant.sent c.in_ok-write_piece.ensures.sends;
  empty = search rules;
  left = search rules;
  none_put = search rules;
  none_taken = search rules;
}

pub returns-in_err-write_piece-clause-sends : goal.returns-in_err-write_piece-clause-sends
returns-in_err-write_piece-clause-sends g c =
    let fault = c.in_err-write_piece.field-0.0 in
    sends_answered (Unit {0}) c.from_residual-in_err-write_piece.result fault (unwritten c.args.self.now)
    (g.W.Write.contents c.args.stream.now) (g.W.Write.contents c.write_piece.new.stream)
    c.from_residual-in_err-write_piece.ensures.1
    (sends_behind (Unit {0}) fault (unwritten c.args.self.now) (unwritten c.loop-self.self)
    (unwritten c.write_piece.new.self) (g.W.Write.contents c.args.stream.now) (g.W.Write.contents c.loop-self.stream)
    (g.W.Write.contents c.write_piece.new.stream) c.loop-self.invariant.sent c.in_err-write_piece.ensures.sends)
