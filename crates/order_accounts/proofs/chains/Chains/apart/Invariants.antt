-- So many are pushed.
use Rattle.std.proofs.Common.{◌≡◌, length}
use Rattle.order_accounts.proofs.chains.Chains.apart.Given as goal

abbrev pub invariant-loop-place : goal.invariant-loop-place
invariant-loop-place l = record { many : length l.leads.items ≡ l.place }
