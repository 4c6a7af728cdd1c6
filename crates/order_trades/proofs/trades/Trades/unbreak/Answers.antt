use Rattle.std.proofs.Common.{◌≡◌, ◌≤◌, List, length, rules, sym, ap, ◌∙◌, slice_get, slice_set, arith}
use Rattle.std.specs.Prelude.{Some}
use Rattle.order_trades.specs.Held.{held_trades}
use Rattle.order_trades.specs.Marking.{changed_at, told_unbroken}
use Rattle.order_trades.specs.declared.told_trade.ToldTrade.{ToldTrade}
use Rattle.order_trades.proofs.Places.{none-changed, set-changed}
use Rattle.order_trades.proofs.trades.Trades.unbreak.Goals as goal

pub returns-then-place-len : goal.returns-then-place-len
returns-then-place-len c =
    let ts = held_trades c.self.inside.held in
    let at : slice_get ts c.args.place ≡ Some c.at-told.result = (search rules) in
    c.set.ensures
    ∙ ap (λ (t : ToldTrade). slice_set ts c.args.place t) c.unbroken.ensures
    ∙ set-changed told_unbroken ts c.args.place c.at-told.result at
    ∙ ap (λ (xs : List ToldTrade). changed_at told_unbroken c.args.place xs) c.self.view_is

pub returns-else-place-len : goal.returns-else-place-len
returns-else-place-len c =
    let behind : length c.args.self.now ≤ c.args.place = (search rules) in
    none-changed told_unbroken c.args.self.now c.args.place behind
