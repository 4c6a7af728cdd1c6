use Rattle.std.proofs.Common.{◌∙◌, ap, length, nat_lt}
use Rattle.gate_law.specs.session_law.Runs.{OnTick, step}
use Rattle.gate_law.specs.Sessions.{client_answer}
use Rattle.gate_sessions.specs.Leaving.{ClientLeaves, is_client_due}
use Rattle.gate_sessions.proofs.client_line.ClientLine.is_due.Goals as goal

pub returns : goal.returns
unfolding ClientLeaves is_client_due client_answer
returns c s k calls is = c.is_due.ensures ∙ ap (λ z. nat_lt 0 (length (step z c.args.at OnTick).outs)) is
