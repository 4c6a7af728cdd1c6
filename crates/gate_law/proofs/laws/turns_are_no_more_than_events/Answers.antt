use Rattle.gate_law.proofs.Counted.{turns-few}
use Rattle.gate_law.proofs.laws.turns_are_no_more_than_events.Goals as goal

pub returns : goal.returns
returns c = turns-few
