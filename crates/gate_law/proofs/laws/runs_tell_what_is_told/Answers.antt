use Rattle.gate_law.proofs.Telling.{runs-tell}
use Rattle.gate_law.proofs.laws.runs_tell_what_is_told.Goals as goal

pub returns : goal.returns
returns c = runs-tell
