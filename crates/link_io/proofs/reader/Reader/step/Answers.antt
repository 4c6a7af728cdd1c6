use Rattle.std.proofs.Common.{ap, Err}
use Rattle.link_io.specs.Reading.{Reading}
use Rattle.link_io.proofs.Going.{reads_at}
use Rattle.link_io.proofs.reader.Reader.step.Goals as goal

pub returns-in-Err-clause-reads : goal.returns-in-Err-clause-reads
returns-in-Err-clause-reads g c refused =
    reads_at g.D.Decoder.made g.D.Decoder.are_all c.args.at
    (Err c.in-Err.fault) c.args.self.now _ c.read_on.new.self _ c.begin.new.self c.fail.new.self
    (g.G.Gate.was_put c.args.gate.now) (g.G.Gate.was_put c.read_on.new.gate) (g.R.Read.remaining c.args.stream.now)
    (g.R.Read.remaining c.read_on.new.stream)
    (ap (λ (r : Reading g.row.D.Denot). record r { limit = c.begin.new.self }) c.self.view_is)
    (ap (λ (r : Reading g.row.D.Denot). record r { limit = c.fail.new.self }) c.self-2.view_is) c.in-Err.ensures.reads
