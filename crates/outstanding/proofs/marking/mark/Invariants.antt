use Rattle.std.proofs.Common.{◌≡◌, ℕ, ◌+◌, ◌≤◌, length, slice_get, decimal}
use Rattle.std.specs.Prelude.{Some, filter, vec_len, vec_capacity}
use Rattle.outstanding.specs.declared.asked.AskedMessage.{AskedMessage}
use Rattle.outstanding.specs.Kept.{is_answered_by}
use Rattle.outstanding.specs.Chaining.{AreNoted, bucket}
use Rattle.outstanding.specs.Leading.{AreChained}
use Rattle.outstanding.specs.Marks.{is_unanswered, marked_by}
use Rattle.outstanding.proofs.Answered.{IsWalked}
use Rattle.outstanding.proofs.marking.mark.Given as goal

-- from the reach on, the messages are marked where they are to be, and before it the chain goes on
abbrev pub invariant-loop-reach : goal.invariant-loop-reach
invariant-loop-reach l = record {
  walked : IsWalked (marked_by (is_answered_by l.port l.heard l.next (decimal l.order_id) l.is_closed))
      l.fn.messages.items l.messages.items l.reach;
  inside : l.reach ≤ vec_len l.messages;
  own : (p : ℕ) (x : AskedMessage) → l.reach ≡ p + 1 → slice_get l.messages.items p ≡ Some x
      → bucket (vec_len l.chains.heads) x.order_id ≡ bucket (vec_len l.chains.heads) l.order_id;
  chained : AreChained l.chains l.messages.items;
  noted : AreNoted l.given.items l.messages.items;
  room : vec_len l.given + length (filter is_unanswered l.messages.items)
      ≤ vec_len l.fn.given + length (filter is_unanswered l.fn.messages.items);
  heads : vec_len l.chains.heads ≡ vec_len l.fn.chains.heads;
  chains_fit : vec_capacity l.chains.older ≡ vec_capacity l.fn.chains.older;
  messages_fit : vec_capacity l.messages ≡ vec_capacity l.fn.messages;
  given_fit : vec_capacity l.given ≡ vec_capacity l.fn.given;
}

abbrev pub decreases-loop-reach : goal.decreases-loop-reach
decreases-loop-reach l = l.reach
