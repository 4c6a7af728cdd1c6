use Rattle.std.proofs.Common.{◌≡◌, List, rules, sym, ap, ◌∙◌}
use Rattle.std.specs.Prelude.{None}
use Rattle.std.specs.List.{list_any}
use Rattle.order_trades.specs.Found.{noted}
use Rattle.order_trades.specs.Marking.{has_match}
use Rattle.order_trades.specs.declared.told_trade.ToldTrade.{ToldTrade}
use Rattle.order_trades.proofs.Places.{none-noted}
use Rattle.order_trades.proofs.indexed.Indexed.place_of.Goals as goal

pub returns-in-None : goal.returns-in-None
returns-in-None c =
    let none : noted c.self.inside.places.entries c.args.match_number ≡ None = (search rules) in
    ap (λ (ts : List ToldTrade). list_any (has_match c.args.match_number) ts) (sym c.self.view_is)
    ∙ none-noted c.self.inside.places.entries c.self.inside.list.items c.args.match_number c.self.invariant none
