-- All so far stay.
use Rattle.std.proofs.Common.{◌≡◌, true, take}
use Rattle.std.specs.List.{list_all}
use Rattle.order_accounts.specs.Shelved.{stays}
use Rattle.order_accounts.proofs.chains.Chains.are_whole.Given as goal

abbrev pub invariant-loop-message : goal.invariant-loop-message
invariant-loop-message l = record { stay : list_all (stays l.self) (take l.message-index l.heard) ≡ true }
