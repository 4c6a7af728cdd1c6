use Rattle.std.proofs.Common.{◌≡◌, length, map}
use Rattle.std.specs.Prelude.{vec_capacity}
use Rattle.outstanding.specs.Chaining.{AreNoted}
use Rattle.outstanding.specs.Marks.{settled_one}
use Rattle.outstanding.proofs.marking.settle_marked.Given as goal

abbrev pub invariant-loop-place : goal.invariant-loop-place
invariant-loop-place l = record {
  noted : AreNoted l.given.items l.messages.items;
  so_far : map settled_one l.messages.items ≡ map settled_one l.fn.messages.items;
  messages_fit : vec_capacity l.messages ≡ vec_capacity l.fn.messages;
  given_fit : vec_capacity l.given ≡ vec_capacity l.fn.given;
}

abbrev pub decreases-loop-place : goal.decreases-loop-place
decreases-loop-place l = length l.given.items
