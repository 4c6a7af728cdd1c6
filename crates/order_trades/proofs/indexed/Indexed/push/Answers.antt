use Rattle.std.proofs.Common.{◌≡◌, List, length, rules, ap, ◌∙◌}
use Rattle.std.specs.List.{list_any}
use Rattle.order_trades.specs.Marking.{has_match}
use Rattle.order_trades.specs.declared.told_trade.ToldTrade.{ToldTrade}
use Rattle.order_trades.proofs.Places.{leads-after}
use Rattle.order_trades.proofs.indexed.Indexed.push.Goals as goal

pub invariant_of-self-2 : goal.invariant_of-self-2
invariant_of-self-2 c =
    let there : c.len-place.result ≡ length c.reserve.new.self.items = (search rules) in
    leads-after c.self.inside.places.entries c.reserve-2.new.self.entries c.note.new.places.entries
    c.self.inside.list.items c.reserve.new.self.items c.push_reserved.new.self.items c.args.told c.len-place.result
    c.self.invariant
    (ap (λ (ts : List ToldTrade). list_any (has_match c.args.told.trade.match_number) ts) c.self.view_is
    ∙ c.requires)
    c.in_ok-reserve-2.ensures.entries c.in_ok-reserve.ensures.items there c.push_reserved.ensures.items
    c.note.ensures
