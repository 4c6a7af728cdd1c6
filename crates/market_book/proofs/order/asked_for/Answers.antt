use Rattle.std.proofs.Common.{arith, sym}
use Rattle.market_book.specs.Tokens.{asks_for}
use Rattle.market_book.proofs.Lists.{any_here, none_any_more}
use Rattle.market_book.proofs.order.asked_for.Goals as goal

pub returns-then-eq : goal.returns-then-eq
returns-then-eq c = sym (any_here (asks_for c.args.token.now) c.args.replacements.now c.loop-request.request-index
    c.request-item.result (omega arith) (rw (← c.request-item.is) (sym c.if-eq.ensures)))

pub loop-request-preserved : goal.loop-request-preserved
loop-request-preserved c = none_any_more (asks_for c.args.token.now) c.args.replacements.now
    c.loop-request.request-index c.request-item.result (omega arith) c.loop-request.invariant
    (rw (← c.request-item.is) (sym c.if-eq.ensures))
