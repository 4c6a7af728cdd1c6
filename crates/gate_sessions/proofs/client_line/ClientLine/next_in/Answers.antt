use Rattle.std.proofs.Common.{sym, subst}
use Rattle.gate_law.specs.session_law.Runs.{Leaves, turns_after}
use Rattle.gate_law.proofs.session_law.Runs.{after-Leaves}
use Rattle.gate_law.specs.Settings.{client_name}
use Rattle.gate_sessions.specs.Leaving.{ClientLeaves}
use Rattle.gate_law.proofs.session_law.Runs.{after-Leaves}
use Rattle.gate_sessions.proofs.client_line.ClientLine.next_in.Goals as goal

pub returns : goal.returns
unfolding ClientLeaves
returns c s k calls is =
    c.next_in.ensures.number s.comp (client_name s k) (turns_after s.comp (client_name s k) calls)
    (subst (Leaves s.comp (client_name s k) (turns_after s.comp (client_name s k) calls)) (sym is)
    (after-Leaves s.comp (client_name s k) calls))
