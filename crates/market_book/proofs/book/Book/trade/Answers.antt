use Rattle.std.proofs.Common.{rules, refl, sym, ap, ◌∙◌, ◌≡◌, subst, arith, ◌∷◌, []}
use Rattle.std.specs.List.{find}
use Rattle.market_law.specs.Machine as law
use Rattle.market_law.specs.Messages as say
use Rattle.market_book.proofs.Finding.{is-found, on-list, none-found, is-one, written, same-machine, trade-none}
use Rattle.market_book.proofs.Finding.{trade-some}
use Rattle.std.proofs.Common.{ℕ, Bool, get_or, set, suc, true, false, nat_lt, ◌<◌, ◌^◌, ◌+◌}
use Rattle.std.proofs.lemmas.Bool.Decides.{nat_tests}
use Rattle.market_book.proofs.book.Book.trade.Goals as goal

none-left : (inside matches : ℕ) → inside ≡ matches → (inside + 1 < 2 ^ 64 → ⊥) → nat_lt (suc matches) (2 ^ 64) ≡ false
none-left inside matches e over = by_test (nat_lt (suc matches) (2 ^ 64)) refl
  where
    by_test : (b : Bool) → nat_lt (suc matches) (2 ^ 64) ≡ b → b ≡ false
    by_test false h = refl
    by_test true h = let lt : suc matches < 2 ^ 64 = grind (arith, nat_tests) in absurd (over (omega (arith, e, lt)))

pub returns-in_default-clause-step : goal.returns-in_default-clause-step
returns-in_default-clause-step c =
    let p = law.is_live_as c.args.trading.now.token in
    let eo = c.as_slice.ensures.value ∙ ap (λ (x : law.Machine). x.book) c.self.view_is in
    rw (sym (ap (find p) eo) ∙ none-found p c.as_slice.result.now c.in_default.ensures)
    (record { machine_is = refl; says_is = c.new.ensures.items })

pub returns-then-not-may_trade-clause-step : goal.returns-then-not-may_trade-clause-step
returns-then-not-may_trade-clause-step c =
    let p = law.is_live_as c.args.trading.now.token in
    let eo = ap (λ (x : law.Machine). x.book) c.self.view_is in
    let f = on-list p c.as_slice.result.now c.args.self.now.book c.in-Some.place
    (c.as_slice.ensures.value ∙ eo) c.in-Some.ensures in
    let found = is-found p c.args.self.now c.self.inside.orders.items c.in-Some.place c.index.result.now eo f
    c.index.ensures in
    rw (found, sym c.if-not-may_trade.ensures)
    (record { machine_is = refl; says_is = c.new-then-not-may_trade.ensures.items })

pub returns-in_default-checked_add-clause-step : goal.returns-in_default-checked_add-clause-step
returns-in_default-checked_add-clause-step c =
    let p = law.is_live_as c.args.trading.now.token in
    let m = c.args.self.now in
    let eo = ap (λ (x : law.Machine). x.book) c.self.view_is in
    let f = on-list p c.as_slice.result.now m.book c.in-Some.place (c.as_slice.ensures.value ∙ eo) c.in-Some.ensures in
    let found = is-found p m c.self.inside.orders.items c.in-Some.place c.index.result.now eo f c.index.ensures in
    let is-none = none-left c.self.inside.matches m.matches
    (ap (λ (x : law.Machine). x.matches) c.self.view_is) c.in_default-checked_add.ensures in
    rw (found, sym c.if-not-may_trade.ensures)
    (trade-none m c.args.trading.now c.index.result.now
    (nat_lt (suc m.matches) (2 ^ 64)) refl is-none _ c.new-in_default-checked_add.ensures.items)

pub returns-clause-step : goal.returns-clause-step
returns-clause-step c =
    let p = law.is_live_as c.args.trading.now.token in
    let m = c.args.self.now in
    let x = c.args.trading.now in
    let eo = ap (λ (x : law.Machine). x.book) c.self.view_is in
    let i = c.in-Some.place in
    let here = c.index_mut-order.result.now in
    let f = on-list p c.as_slice.result.now c.args.self.now.book c.in-Some.place
    (c.as_slice.ensures.value ∙ eo) c.in-Some.ensures in
    let h = c.index_mut-order.ensures.value ∙ ap (λ xs. get_or xs i here) eo in
    let is-here = is-one p m.book i here f h in
    let is-there = is-one p m.book i c.index.result.now f
    (c.index.ensures ∙ ap (λ xs. get_or xs i c.index.result.now) eo) in
    let found = is-found p m c.self.inside.orders.items i c.index.result.now eo f c.index.ensures in
    let number : c.in-Some-checked_add.match_number ≡ suc c.self.inside.matches = search rules in
    let next = number ∙ ap (λ (x : law.Machine). suc x.matches) c.self.view_is in
    let below : c.in-Some-checked_add.match_number < 2 ^ 64 = search rules in
    let is-left : nat_lt (suc m.matches) (2 ^ 64) ≡ true = let b = below in let e = next in grind (arith, nat_tests) in
    rw (found, sym c.if-not-may_trade.ensures)
    (trade-some m x c.index.result.now (nat_lt (suc m.matches) (2 ^ 64)) refl is-left _ _
    (same-machine _ _ (ap (λ (x : law.Machine). x.used) c.self.view_is) next
    (ap (λ xs. set xs i c.trade.new.self) eo ∙ written p
    (law.traded_in_book (suc m.matches) x) m.book i here c.trade.new.self f h
    (c.in_ok-trade.ensures.traded ∙ ap (λ k. law.traded_in_book k x here) next)))
    (λ fit. c.in_ok-says.ensures ∙ ap (λ a. a ∷ [])
    (subst (λ k. (fit : k < 2 ^ 64) → c.executed.result ≡ say.executed (law.live_of here) x k fit) next
    c.executed.ensures fit
    ∙ ap (λ (o : law.BookOrder). say.executed (law.live_of o) x (suc m.matches) fit) (is-here ∙ sym is-there))))
