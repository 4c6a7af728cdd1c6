use Rattle.std.proofs.Common.{◌≡◌, take}
use Rattle.std.specs.Prelude.{vec_len, vec_capacity}
use Rattle.outstanding.specs.Leading.{AreChained}
use Rattle.outstanding.proofs.places.truncate.Given as goal

abbrev pub invariant-loop-messages : goal.invariant-loop-messages
invariant-loop-messages l = record {
  first : take l.count l.messages.items ≡ take l.count l.fn.messages.items;
  chained : AreChained l.chains l.messages.items;
  heads : vec_len l.chains.heads ≡ vec_len l.fn.chains.heads;
  chains_fit : vec_capacity l.chains.older ≡ vec_capacity l.fn.chains.older;
  messages_fit : vec_capacity l.messages ≡ vec_capacity l.fn.messages;
}

abbrev pub decreases-loop-messages : goal.decreases-loop-messages
decreases-loop-messages l = vec_len l.messages
