use Rattle.std.proofs.Common.{◌≡◌, bytes_eq, take, false}
use Rattle.std.specs.List.{list_any}
use Rattle.market_book.proofs.places.is_one_of.Given as goal

abbrev pub invariant-loop-known : goal.invariant-loop-known
invariant-loop-known l = list_any (bytes_eq l.token) (take l.known-index l.tokens) ≡ false
