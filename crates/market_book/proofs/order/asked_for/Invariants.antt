use Rattle.std.proofs.Common.{◌≡◌, take, false}
use Rattle.std.specs.List.{list_any}
use Rattle.market_book.specs.Tokens.{asks_for}
use Rattle.market_book.proofs.order.asked_for.Given as goal

abbrev pub invariant-loop-request : goal.invariant-loop-request
invariant-loop-request l = list_any (asks_for l.token) (take l.request-index l.replacements) ≡ false
