use Rattle.std.proofs.Common.{◌≡◌, take}
use Rattle.orders.proofs.replaces.all_copied.Given as goal

-- those before the place are copied
abbrev pub invariant-loop-replacing : goal.invariant-loop-replacing
invariant-loop-replacing l = l.copies.items ≡ take l.replacing-index l.replaces
