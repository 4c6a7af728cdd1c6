use Rattle.std.proofs.Common.{◌≡◌, map, take}
use Rattle.orders.specs.Seen.{replacing_token}
use Rattle.orders.proofs.order.tokens_of.Given as goal

-- the tokens of those before the place are there
abbrev pub invariant-loop-replacing : goal.invariant-loop-replacing
invariant-loop-replacing l = l.tokens ≡ map replacing_token (take l.replacing-index l.replaces)
