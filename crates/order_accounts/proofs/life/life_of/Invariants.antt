use Rattle.std.proofs.Common.{◌≡◌, ◌≤◌, ◌*◌, ◌^◌, reverse, take}
use Rattle.order_law.specs.Life.{life}
use Rattle.order_accounts.proofs.life.life_of.Given as goal

abbrev pub invariant-loop-message : goal.invariant-loop-message
invariant-loop-message l = record {
  life : l.life ≡ life l.root l.side (reverse (take l.message-index l.messages));
  executed : l.life.executed ≤ l.message-index * 2 ^ 32;
  cancelled : l.life.cancelled ≤ l.message-index * 2 ^ 32;
  value : l.life.value ≤ l.message-index * 2 ^ 64;
}
