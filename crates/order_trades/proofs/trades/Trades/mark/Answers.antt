use Rattle.std.proofs.Common.{◌≡◌, List, map, rules, sym, ap, ◌∙◌, subst, slice_get, slice_set}
use Rattle.std.specs.Prelude.{Some}
use Rattle.order_trades.specs.Found.{AreApart}
use Rattle.order_trades.specs.Held.{held_trades}
use Rattle.order_trades.specs.Marking.{told_marked}
use Rattle.order_trades.specs.declared.told_trade.ToldTrade.{ToldTrade}
use Rattle.order_trades.proofs.Places.{apart-set, marked-none, marked-own, only-at, set-marked}
use Rattle.order_trades.proofs.trades.Trades.mark.Goals as goal

pub invariant_of-self : goal.invariant_of-self
invariant_of-self c =
    let ts = held_trades c.self.inside.held in
    let at : slice_get ts c.in-Some.place ≡ Some c.at-told.result = (search rules) in
    subst AreApart (sym c.set.ensures)
    (apart-set ts c.in-Some.place c.at-told.result c.marked.result c.self.invariant at
    (ap (λ (t : ToldTrade). t.trade.match_number) c.marked.ensures ∙ marked-own c.args.match_number c.at-told.result))

pub returns-in-Some : goal.returns-in-Some
returns-in-Some c =
    let ts = held_trades c.self.inside.held in
    let at : slice_get ts c.in-Some.place ≡ Some c.at-told.result = (search rules) in
    c.set.ensures
    ∙ ap (λ (t : ToldTrade). slice_set ts c.in-Some.place t) c.marked.ensures
    ∙ set-marked c.args.match_number ts c.in-Some.place c.at-told.result
    (only-at c.args.match_number ts c.in-Some.place c.self.invariant c.in-Some.ensures) at
    ∙ ap (λ (xs : List ToldTrade). map (told_marked c.args.match_number) xs) c.self.view_is

pub returns-in_default : goal.returns-in_default
returns-in_default c =
    sym (ap (λ (xs : List ToldTrade). map (told_marked c.args.match_number) xs) (sym c.self.view_is)
    ∙ marked-none c.args.match_number (held_trades c.self.inside.held) (search rules)
    ∙ c.self.view_is)
