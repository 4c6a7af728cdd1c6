use Rattle.gate_law.proofs.Messages.{reads-sends, reads-after}
use Rattle.gate_law.proofs.laws.packets_have_the_messages_sent.Goals as goal

pub returns-clause-sends : goal.returns-clause-sends
returns-clause-sends c = reads-sends

pub returns-clause-after : goal.returns-clause-after
returns-clause-after c = reads-after
