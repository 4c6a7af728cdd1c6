-- What stood at the places so far.
use Rattle.std.proofs.Common.{◌≡◌, take}
use Rattle.order_accounts.specs.Shelved.{picked}
use Rattle.order_accounts.proofs.messages.MessageShelves.those_at.Given as goal

abbrev pub invariant-loop-place : goal.invariant-loop-place
invariant-loop-place l = l.messages.items ≡ picked l.self (take l.place-index l.places)
