use Rattle.session_law.proofs.Bounds.{step-little}
use Rattle.session_law.proofs.laws.calls_move_numbers_little.Goals as goal

pub returns : goal.returns
returns c = step-little
