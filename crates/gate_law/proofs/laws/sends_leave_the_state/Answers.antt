use Rattle.gate_law.proofs.Links.{sends-leave}
use Rattle.gate_law.proofs.laws.sends_leave_the_state.Goals as goal

pub returns : goal.returns
returns c = sends-leave
