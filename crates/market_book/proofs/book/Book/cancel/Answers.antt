use Rattle.std.proofs.Common.{rules, refl, sym, ap, ◌∙◌, ◌≡◌, true}
use Rattle.std.specs.List.{find}
use Rattle.market_law.specs.Machine as law
use Rattle.market_book.proofs.Finding.{is-found, on-list, none-found, finds, to_cancel-rest}
use Rattle.std.proofs.Common.{◌==◌}
use Rattle.std.proofs.lemmas.Result.{IfOk-weaker}
use Rattle.market_book.proofs.book.Book.cancel.Goals as goal

pub returns-in_default-clause-step : goal.returns-in_default-clause-step
returns-in_default-clause-step c =
    let p = law.is_live_as c.args.request.now.token in
    let eo = c.as_slice.ensures.value ∙ ap (λ (x : law.Machine). x.book) c.self.view_is in
    rw (sym (ap (find p) eo) ∙ none-found p c.as_slice.result.now c.in_default.ensures)
    (record { machine_is = refl; says_is = c.new.ensures.items })

pub returns-in-AcceptDead-clause-step : goal.returns-in-AcceptDead-clause-step
returns-in-AcceptDead-clause-step c =
    let p = law.is_live_as c.args.request.now.token in
    let eo = ap (λ (x : law.Machine). x.book) c.self.view_is in
    let f = on-list p c.as_slice.result.now c.args.self.now.book c.in-Some.place
    (c.as_slice.ensures.value ∙ eo) c.in-Some.ensures in
    let found = is-found p c.args.self.now c.self.inside.orders.items c.in-Some.place c.index.result.now eo f
    c.index.ensures in
    rw (found, c.in-AcceptDead.is) (search (rules, c.one.ensures, c.cancel_pending.ensures))

pub returns-in-Refuse-clause-step : goal.returns-in-Refuse-clause-step
returns-in-Refuse-clause-step c =
    let p = law.is_live_as c.args.request.now.token in
    let eo = ap (λ (x : law.Machine). x.book) c.self.view_is in
    let f = on-list p c.as_slice.result.now c.args.self.now.book c.in-Some.place
    (c.as_slice.ensures.value ∙ eo) c.in-Some.ensures in
    let found = is-found p c.args.self.now c.self.inside.orders.items c.in-Some.place c.index-in-Refuse.result.now eo f
    c.index-in-Refuse.ensures in
    rw (found, c.in-Refuse.is) (search (rules, c.one-in-Refuse.ensures, c.cancel_reject.ensures))

pub returns-in_default-choice : goal.returns-in_default-choice
returns-in_default-choice c =
    let p = law.is_live_as c.args.request.now.token in
    let eo = ap (λ (x : law.Machine). x.book) c.self.view_is in
    let f = on-list p c.as_slice.result.now c.args.self.now.book c.in-Some.place
    (c.as_slice.ensures.value ∙ eo) c.in-Some.ensures in
    let found = finds p c.args.self.now.book c.in-Some.place f in
    let rest = to_cancel-rest c.args.choice c.in_default-choice.not-AcceptDead c.in_default-choice.not-Refuse in
    let none : (c.args.request.now.shares == 0) ≡ true = search rules in
    record {
      step = IfOk-weaker c.cancel_all.result _ _
          (λ says h. rw (found, none, rest) (h f.one found)) c.cancel_all.ensures.step;
      err = c.cancel_all.ensures.err;
    }
