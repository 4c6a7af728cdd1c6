use Rattle.std.proofs.Common.{rules}
use Rattle.link_io.proofs.Piecing.{part_joined, part_next}
use Rattle.link_io.proofs.writer.BatchWriter.write_piece.Goals as goal

pub returns-then-is_err-clause-sends : goal.returns-then-is_err-clause-sends
returns-then-is_err-clause-sends g c =
    part_next c.write_next.result c.args.self.now c.join_next.new.self c.write_next.new.self
    (g.W.Write.contents c.args.stream.now) (g.W.Write.contents c.write_next.new.stream) c.requires.written
    (search rules) c.write_next.ensures.sends c.write_next.ensures.next

pub returns-clause-sends : goal.returns-clause-sends
returns-clause-sends g c =
    part_joined c.write_joined.result c.args.self.now c.join_next.new.self c.join.new.self c.write_joined.new.self
    (g.W.Write.contents c.args.stream.now) (g.W.Write.contents c.write_joined.new.stream) c.join_next.ensures.joins
    c.join.ensures.joins c.write_joined.ensures.sends c.write_joined.ensures.all
