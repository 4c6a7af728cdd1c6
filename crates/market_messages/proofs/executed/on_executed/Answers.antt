use Rattle.std.proofs.Common.{rules, ◌≡◌, true, ap, ◌∙◌}
use Rattle.ouch_codec.specs.declared.outbound.Outbound.TheVariants as market
use Rattle.orders.specs.Changes.{changed_by}
use Rattle.orders.specs.order_trades.declared.told_trade.ToldTrade.{ToldTrade}
use Rattle.orders.specs.declared.change.Change.TheVariants as changes
use Rattle.market_messages.specs.Meets.{is_lawful}
use Rattle.market_messages.proofs.ExecutedRow.{executed-now, trade-few, trade-new, trade-works}
use Rattle.market_messages.proofs.executed.on_executed.Goals as goal

pub returns : goal.returns
returns c =
    let m = c.args.message.now in
    let o = c.args.order.now in
    let may : is_lawful (market.Executed m) o ≡ true = (search rules) in
    record {
      lawful = may;
      told = c.in_ok-tell_executed.ensures.told;
      now = ap (λ (t : ToldTrade). changed_by (changes.Traded t) o) c.told_trade.ensures
          ∙ executed-now m o may c.args.issued;
      fits = rw c.told_trade.ensures (trade-works m o may, trade-few m o may, trade-new m o may);
    }
