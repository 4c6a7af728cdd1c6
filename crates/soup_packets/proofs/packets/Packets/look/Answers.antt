use Rattle.std.proofs.Common.{rules}
use Rattle.soup_packets.proofs.Streams.{front_none, front_empty}
use Rattle.soup_packets.proofs.packets.Packets.look.Goals as goal

pub returns-clause-all : goal.returns-clause-all
returns-clause-all c = front_none c.args.self.now c.front_of.result (search rules)

pub returns-clause-empty : goal.returns-clause-empty
returns-clause-empty c = λ e. front_empty c.args.self.now c.front_of.result (search rules) e
