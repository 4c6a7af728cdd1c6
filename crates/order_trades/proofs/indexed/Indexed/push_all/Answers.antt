use Rattle.std.proofs.Common.{◌≡◌, ◌<◌, List, length, false, get_or, rules, ap, ◌∙◌}
use Rattle.std.specs.List.{list_any}
use Rattle.std.proofs.lemmas.Option.{slice_get-get_or}
use Rattle.order_trades.specs.Marking.{has_match}
use Rattle.order_trades.specs.declared.told_trade.ToldTrade.{ToldTrade}
use Rattle.order_trades.proofs.Places.{new-behind}
use Rattle.order_trades.proofs.indexed.Indexed.push_all.Goals as goal

pub push-requires : goal.push-requires
push-requires c =
    let ts = c.args.trades.now in
    let i = c.loop-told.told-index in
    let none : ToldTrade =
    record { trade = record { match_number = 0; shares = 0; price = 0; is_broken = false }; number = 0 } in
    let told : ToldTrade = get_or ts i none in
    let inside : i < length ts = (search rules) in
    ap (λ (xs : List ToldTrade). list_any (has_match told.trade.match_number) xs) c.loop-told.invariant
    ∙ new-behind ts i told c.requires.apart (slice_get-get_or ts i none inside)
