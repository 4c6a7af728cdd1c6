use Rattle.std.proofs.Common.{false, subst}
use Rattle.link_decoders.specs.Making.{MadeAll}
use Rattle.link_io.specs.Reading.{Reading}
use Rattle.link_io.proofs.Going.{idle_next}
use Rattle.link_io.proofs.reader.Reader.put_next.Goals as goal

pub returns-then-is_idle-clause-puts : goal.returns-then-is_idle-clause-puts
returns-then-is_idle-clause-puts g c =
    idle_next g.D.Decoder.made g.D.Decoder.are_all c.args.at g.D.Decoder.to_make c.args.self.now
    (g.G.Gate.was_put c.args.gate.now) c.requires.put c.requires.fed
    (subst (λ (r : Reading g.row.D.Denot). MadeAll g.D.Decoder.made g.D.Decoder.are_all false r.decoder r.decoder)
    c.self.view_is (c.is_idle.ensures c.if-is_idle.true))
