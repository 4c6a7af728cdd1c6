use Rattle.std.proofs.Common.{◌≡◌, ◌<◌, List, length, map, reverse, rules, sym, ap, ◌∙◌, subst, slice_get}
use Rattle.std.proofs.Common.{true, false}
use Rattle.std.specs.Prelude.{Some, None}
use Rattle.std.specs.List.{find}
use Rattle.std.proofs.lemmas.Option.{slice_get_within}
use Rattle.order_trades.specs.Held.{held_trades}
use Rattle.order_trades.specs.Marking.{changed_at, told_marked, told_stands, told_unbroken}
use Rattle.order_trades.specs.declared.told_trade.ToldTrade.{ToldTrade}
use Rattle.order_trades.proofs.Places.{broken-stands, marked-again, marked-none, none-stands, only-at, stands-at, unmarked}
use Rattle.order_trades.proofs.trades.Trades.standing_place.Goals as goal

pub returns-in-None-clause-newest : goal.returns-in-None-clause-newest
returns-in-None-clause-newest c =
    ap (λ (ts : List ToldTrade). find (told_stands c.args.match_number) (reverse ts)) (sym c.self.view_is)
    ∙ none-stands c.args.match_number (held_trades c.self.inside.held) c.in-None.ensures

pub returns-in-None-clause-back : goal.returns-in-None-clause-back
returns-in-None-clause-back c =
    subst (λ (ts : List ToldTrade). map (told_marked c.args.match_number) ts ≡ ts) c.self.view_is
    (marked-none c.args.match_number (held_trades c.self.inside.held) c.in-None.ensures)

pub returns-then-at-clause-newest : goal.returns-then-at-clause-newest
returns-then-at-clause-newest c =
    let ts = held_trades c.self.inside.held in
    let at : slice_get ts c.in-Some.place ≡ Some c.at.result = (search rules) in
    ap (λ (xs : List ToldTrade). find (told_stands c.args.match_number) (reverse xs)) (sym c.self.view_is)
    ∙ broken-stands c.args.match_number ts c.in-Some.place c.at.result
    (only-at c.args.match_number ts c.in-Some.place c.self.invariant c.in-Some.ensures) at c.if-at.true

pub returns-then-at-clause-back : goal.returns-then-at-clause-back
returns-then-at-clause-back c =
    let held = held_trades c.self.inside.held in
    let at : slice_get held c.in-Some.place ≡ Some c.at.result = (search rules) in
    subst (λ (ts : List ToldTrade). map (told_marked c.args.match_number) ts ≡ ts) c.self.view_is
    (marked-again c.args.match_number held c.in-Some.place c.at.result
    (only-at c.args.match_number held c.in-Some.place c.self.invariant c.in-Some.ensures) at c.if-at.true)

pub returns-else-at-clause-newest : goal.returns-else-at-clause-newest
returns-else-at-clause-newest c =
    let held = held_trades c.self.inside.held in
    let at : slice_get held c.in-Some.place ≡ Some c.at.result = (search rules) in
    subst (λ (ts : List ToldTrade). find (told_stands c.args.match_number) (reverse ts) ≡ slice_get ts c.in-Some.place)
    c.self.view_is
    (stands-at c.args.match_number held c.in-Some.place c.at.result
    (only-at c.args.match_number held c.in-Some.place c.self.invariant c.in-Some.ensures) at (search rules)
    c.if-at.false)

pub returns-else-at-clause-inside : goal.returns-else-at-clause-inside
returns-else-at-clause-inside c =
    let held = held_trades c.self.inside.held in
    let at : slice_get held c.in-Some.place ≡ Some c.at.result = (search rules) in
    subst (λ (ts : List ToldTrade). c.in-Some.place < length ts) c.self.view_is
    (slice_get_within held c.in-Some.place c.at.result at)

pub returns-else-at-clause-back : goal.returns-else-at-clause-back
returns-else-at-clause-back c =
    let held = held_trades c.self.inside.held in
    let at : slice_get held c.in-Some.place ≡ Some c.at.result = (search rules) in
    subst (λ (ts : List ToldTrade). changed_at told_unbroken c.in-Some.place
    (map (told_marked c.args.match_number) ts) ≡ ts) c.self.view_is
    (unmarked c.args.match_number held c.in-Some.place c.at.result
    (only-at c.args.match_number held c.in-Some.place c.self.invariant c.in-Some.ensures) at c.if-at.false)
