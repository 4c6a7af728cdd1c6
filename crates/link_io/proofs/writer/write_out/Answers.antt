use Rattle.std.proofs.Common.{◌∙◌, rules}
use Rattle.link_io.proofs.Sending.{sent_more}
use Rattle.link_io.proofs.writer.write_out.Goals as goal

pub loop-rest-preserved : goal.loop-rest-preserved
loop-rest-preserved g c = (
  sent_more c.in-Ok.count c.args.bytes.now c.loop-rest.rest.now c.split_at.result.1.now
      (g.W.Write.contents c.args.stream.now) (g.W.Write.contents c.loop-rest.stream)
      (g.W.Write.contents c.write_patiently.new.stream) c.loop-rest.invariant.0 c.in-Ok.ensures.bytes (search rules),
  c.write_patiently.ensures.none_put ∙ c.loop-rest.invariant.1,
  c.write_patiently.ensures.none_taken ∙ c.loop-rest.invariant.2,
)
