use Rattle.std.proofs.Common.{◌≡◌, ◌+◌, ◌≤◌, length, map}
use Rattle.std.specs.Prelude.{filter, vec_len, vec_capacity}
use Rattle.outstanding.specs.Chaining.{AreNoted}
use Rattle.outstanding.specs.Marks.{is_unanswered, unmarked}
use Rattle.outstanding.proofs.marking.unmark.Given as goal

abbrev pub invariant-loop-place : goal.invariant-loop-place
invariant-loop-place l = record {
  noted : AreNoted l.given.items l.messages.items;
  so_far : map unmarked l.messages.items ≡ map unmarked l.fn.messages.items;
  room : vec_len l.given + length (filter is_unanswered l.messages.items)
      ≤ vec_len l.fn.given + length (filter is_unanswered l.fn.messages.items);
  messages_fit : vec_capacity l.messages ≡ vec_capacity l.fn.messages;
  given_fit : vec_capacity l.given ≡ vec_capacity l.fn.given;
}

abbrev pub decreases-loop-place : goal.decreases-loop-place
decreases-loop-place l = length l.given.items
