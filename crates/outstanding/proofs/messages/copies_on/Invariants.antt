use Rattle.std.proofs.Common.{◌≡◌, map, take}
use Rattle.order_law.specs.ouch_codec.Inbound.{inbound_bytes}
use Rattle.outstanding.specs.Kept.{bytes_on}
use Rattle.outstanding.specs.Marks.{unanswered}
use Rattle.outstanding.proofs.messages.copies_on.Given as goal

-- the port's own of those passed so far
abbrev pub invariant-loop-asked : goal.invariant-loop-asked
invariant-loop-asked l = map inbound_bytes l.messages.items ≡ bytes_on l.port (unanswered (take l.asked-index l.kept))
