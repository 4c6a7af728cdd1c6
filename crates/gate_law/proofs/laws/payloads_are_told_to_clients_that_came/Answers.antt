use Rattle.std.proofs.Common.{◌≡◌, ℕ, true}
use Rattle.gate_law.proofs.Clients.{told-either, told-none, told-some}
use Rattle.gate_law.proofs.laws.payloads_are_told_to_clients_that_came.Goals as goal

pub returns-clause-either : goal.returns-clause-either
returns-clause-either c = λ terms is_ours. told-either terms (λ (client : ℕ). is_ours client ≡ true)

pub returns-clause-none : goal.returns-clause-none
returns-clause-none c = told-none

pub returns-clause-some : goal.returns-clause-some
returns-clause-some c = λ terms is_ours. told-some terms (λ (client : ℕ). is_ours client ≡ true)
