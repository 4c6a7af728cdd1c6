use Rattle.std.proofs.Common.{None, Ok, sym, subst}
use Rattle.soup_packets.specs.Stream.{IsPartial}
use Rattle.soup_packets.proofs.Streams.{front_none}
use Rattle.soup_packets.proofs.packets.Packets.is_idle.Goals as goal

pub returns-clause-all : goal.returns-clause-all
returns-clause-all c = λ idle. front_none c.args.self.now (Ok None)
    (subst IsPartial (sym (c.holds_nothing.ensures.0 idle)) tt)
