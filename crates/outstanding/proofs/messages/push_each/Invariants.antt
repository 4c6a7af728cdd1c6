use Rattle.std.proofs.Common.{◌≡◌, ◌+◌, ◌++◌, map, take}
use Rattle.outstanding.specs.Marks.{asked_of}
use Rattle.outstanding.proofs.messages.push_each.Given as goal

-- those passed so far stand behind the others, and there is room for the rest
abbrev pub invariant-loop-message : goal.invariant-loop-message
invariant-loop-message l =
    (l.places.items ≡ l.fn.places.items ++ map (asked_of l.port l.order_id) (take l.message-index l.messages))
    × (l.places.room + l.message-index ≡ l.fn.places.room)
