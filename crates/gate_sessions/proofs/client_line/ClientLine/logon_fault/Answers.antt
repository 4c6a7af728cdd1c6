use Rattle.std.proofs.Common.{◌∙◌, ap}
use Rattle.fix_session.specs.LogonFaults.{logon_fault}
use Rattle.gate_sessions.specs.Leaving.{ClientLeaves, logon_fault_in}
use Rattle.gate_sessions.proofs.client_line.ClientLine.logon_fault.Goals as goal

pub returns : goal.returns
unfolding ClientLeaves logon_fault_in
returns c s k calls is = c.logon_fault.ensures ∙ ap (λ z. logon_fault z c.args.frame.now) is
