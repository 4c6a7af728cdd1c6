use Rattle.std.proofs.Common.{List, ap, ◌∙◌}
use Rattle.std.specs.List.{list_any}
use Rattle.order_trades.specs.Held.{held_trades}
use Rattle.order_trades.specs.Marking.{has_match}
use Rattle.order_trades.specs.declared.told_trade.ToldTrade.{ToldTrade}
use Rattle.order_trades.proofs.Places.{push-apart}
use Rattle.order_trades.proofs.trades.Trades.push.Goals as goal

pub invariant_of-self : goal.invariant_of-self
invariant_of-self c =
    push-apart c.push.result (held_trades c.self.inside.held) (held_trades c.push.new.self) c.args.told c.self.invariant
    (ap (λ (ts : List ToldTrade). list_any (has_match c.args.told.trade.match_number) ts) c.self.view_is
    ∙ c.requires)
    c.push.ensures.pushed c.push.ensures.err
