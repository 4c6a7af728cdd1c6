use Rattle.std.proofs.Common.{◌≡◌, bytes_eq, take}
use Rattle.std.specs.List.{list_any}
use Rattle.order_accounts.proofs.life.is_one_of.Given as goal

abbrev pub invariant-loop-known : goal.invariant-loop-known
invariant-loop-known l = l.found ≡ list_any (λ known. bytes_eq l.token known.items) (take l.known-index l.tokens.items)
