use Rattle.std.proofs.Common.{rules, ◌≡◌, true}
use Rattle.ouch_codec.specs.declared.outbound.Outbound.TheVariants as market
use Rattle.market_messages.specs.Meets.{is_lawful}
use Rattle.market_messages.proofs.CanceledRow.{cancel-few, cancel-works, canceled-now}
use Rattle.market_messages.proofs.canceled.on_canceled.Goals as goal

pub returns : goal.returns
returns c =
    let m = c.args.message.now in
    let o = c.args.order.now in
    let may : is_lawful (market.Canceled m) o ≡ true = (search rules) in
    record {
      lawful = may;
      told = c.in_ok-tell_canceled.ensures.told;
      now = canceled-now m o may c.args.issued;
      fits = (cancel-works m o may, cancel-few m o may);
    }
