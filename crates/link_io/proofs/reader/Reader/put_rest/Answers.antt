use Rattle.link_io.proofs.Going.{puts_idle}
use Rattle.link_io.proofs.reader.Reader.put_rest.Goals as goal

pub returns-then-has_nothing-clause-puts : goal.returns-then-has_nothing-clause-puts
returns-then-has_nothing-clause-puts g c =
    puts_idle g.D.Decoder.made g.D.Decoder.are_all c.args.at g.D.Decoder.to_make c.args.self.now
    (g.G.Gate.was_put c.args.gate.now) (c.has_nothing.ensures c.if-has_nothing.true)
