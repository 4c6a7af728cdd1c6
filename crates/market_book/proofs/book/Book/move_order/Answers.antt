use Rattle.std.proofs.Common.{rules, sym, ap, ◌∙◌, ◌≡◌, subst, arith, ◌∷◌, [], get_or, set, ◌-◌, ◌≤◌, ◌<◌, ◌^◌}
use Rattle.std.proofs.lemmas.Result.{IfOk-weaker}
use Rattle.market_law.specs.Machine as law
use Rattle.market_law.specs.Messages as say
use Rattle.market_book.proofs.Finding.{is-found, some-same, move-none, move-some, written, same-machine}
use Rattle.market_book.proofs.book.Book.move_order.Goals as goal

pub returns-then-left-eq0-clause-step : goal.returns-then-left-eq0-clause-step
returns-then-left-eq0-clause-step c =
    let p = law.is_live_as c.args.request.now.token in
    let m = c.args.self.now in
    let eo = ap (λ (x : law.Machine). x.book) c.self.view_is in
    let found = is-found p m c.self.inside.orders.items c.args.place c.index.result.now eo c.requires c.index.ensures in
    let left : c.saturating_sub-left.result ≡ c.args.request.now.shares - c.index.result.now.executed =
    c.saturating_sub-left.ensures ∙ ap (λ k. c.args.request.now.shares - k) c.executed.ensures in
    let zero-left : c.saturating_sub-left.result ≡ 0 = search rules in
    IfOk-weaker c.cancel_all.result _ _ (λ says h c' e.
    let same = some-same c.index.result.now c' (sym found ∙ e) in
    move-none m c.args.request.now c' c.args.state _ _ _ _
    (ap (λ (o : law.BookOrder). c.args.request.now.shares - o.executed) (sym same) ∙ sym left ∙ zero-left) (h c' e))
    c.cancel_all.ensures.step

pub returns-clause-step : goal.returns-clause-step
returns-clause-step c = λ c' e.
    let p = law.is_live_as c.args.request.now.token in
    let m = c.args.self.now in
    let r = c.args.request.now in
    let i = c.args.place in
    let here = c.index_mut-order.result.now in
    let eo = ap (λ (x : law.Machine). x.book) c.self.view_is in
    let h = c.index_mut-order.ensures.value ∙ ap (λ xs. get_or xs i here) eo in
    let found = is-found p m c.self.inside.orders.items i here eo c.requires c.index_mut-order.ensures.value in
    let found-first = is-found p m c.self.inside.orders.items i c.index.result.now eo c.requires c.index.ensures in
    let found-second = is-found p m c.self.inside.orders.items i c.index-2.result.now eo c.requires c.index-2.ensures in
    let same = some-same c.index.result.now c' (sym found-first ∙ e) in
    let same-2 = some-same c.index-2.result.now c' (sym found-second ∙ e) in
    let left : c.saturating_sub-left.result ≡ r.shares - c'.executed = c.saturating_sub-left.ensures
    ∙ ap (λ k. r.shares - k) c.executed.ensures ∙ ap (λ (o : law.BookOrder). r.shares - o.executed) same in
    let some : 1 ≤ c.saturating_sub-left.result = search rules in
    let most : c.saturating_sub-left.result ≤ 999_999 = let s = r.shares_set.1 in omega (arith, left, s) in
    move-some m r c' c.args.state (r.shares - c'.executed) _ _ _ (subst (λ n. 1 ≤ n) left some)
    (λ fit. same-machine _ _ (c.in_ok-insert.ensures.items
    ∙ ap (λ us. r.replacement_token ∷ us) (c.reserve.ensures.items
    ∙ ap (λ (x : law.Machine). x.used) c.self.view_is)) (ap (λ (x : law.Machine). x.matches) c.self.view_is)
    (ap (λ xs. set xs i c.replace.new.self) eo
    ∙ written p (law.moved r (r.shares - c'.executed) fit c.args.state) m.book i here c.replace.new.self c.requires
    h
    (subst (λ n. (fit : n < 2 ^ 32) → c.replace.new.self ≡ law.moved r n fit c.args.state here) left
    c.in_ok-replace.ensures.moved fit)))
    (λ set. c.in_ok-says.ensures ∙ ap (λ a. a ∷ [])
    (subst (λ n. (s : (1 ≤ n) × (n ≤ 999_999))
    → c.replaced-message.result ≡ say.replaced_by c.entered.result.now r n s c.args.state) left
    c.replaced-message.ensures set
    ∙ ap (λ o. say.replaced_by o r (r.shares - c'.executed) set c.args.state)
    (c.entered.ensures ∙ ap (λ (o : law.BookOrder). o.entered) same-2)))
