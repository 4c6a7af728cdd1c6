-- The places of all so far stand where their tokens lead.
use Rattle.std.proofs.Common.{◌≡◌, length, take}
use Rattle.order_accounts.specs.Shelved.{AreShelved, message_at}
use Rattle.order_accounts.proofs.messages.shelved.Given as goal

abbrev pub invariant-loop-place : goal.invariant-loop-place
invariant-loop-place l = record {
  same : length l.shelves ≡ length l.chains;
  shelved : AreShelved (message_at l.chains) (take l.place l.heard) l.shelves;
}
