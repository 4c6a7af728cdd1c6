use Rattle.std.proofs.Common.{List, sym, ap, ◌∙◌}
use Rattle.std.specs.List.{list_any}
use Rattle.order_trades.specs.Held.{held_trades}
use Rattle.order_trades.specs.Marking.{has_match}
use Rattle.order_trades.specs.declared.told_trade.ToldTrade.{ToldTrade}
use Rattle.order_trades.proofs.Places.{any-at}
use Rattle.order_trades.proofs.trades.Trades.holds.Goals as goal

pub returns-in-Some : goal.returns-in-Some
returns-in-Some c =
    sym (any-at c.args.match_number (held_trades c.self.inside.held) c.in-Some.field-0 c.in-Some.ensures)
    ∙ ap (λ (ts : List ToldTrade). list_any (has_match c.args.match_number) ts) c.self.view_is
