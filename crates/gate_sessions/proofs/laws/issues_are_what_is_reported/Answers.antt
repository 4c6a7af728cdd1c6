use Rattle.gate_sessions.proofs.Bodies.{issue-is, report-is}
use Rattle.gate_sessions.proofs.laws.issues_are_what_is_reported.Goals as goal

pub returns-clause-call : goal.returns-clause-call
returns-clause-call c = issue-is

pub returns-clause-body : goal.returns-clause-body
returns-clause-body c = report-is
