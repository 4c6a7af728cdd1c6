use Rattle.std.proofs.Common.{rules}
use Rattle.soup_packets.proofs.Streams.{fed_passed, passes}
use Rattle.soup_packets.proofs.packets.Packets.pass.Goals as goal

pub returns-clause-passes : goal.returns-clause-passes
returns-clause-passes c = passes c.args.self.now c.pass.new.self.kept c.in-Whole.size (search rules) (search rules)
    (search rules)

pub returns-clause-fed : goal.returns-clause-fed
returns-clause-fed c = λ stream given p e f. fed_passed stream given p c.args.self.now c.pass.new.self.kept e f
