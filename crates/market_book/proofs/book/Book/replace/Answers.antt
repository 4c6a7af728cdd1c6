use Rattle.std.proofs.Common.{rules, refl, sym, ap, ◌∙◌, ◌≡◌, false}
use Rattle.std.specs.List.{find}
use Rattle.std.proofs.lemmas.Result.{IfOk-weaker}
use Rattle.market_law.specs.Machine as law
use Rattle.market_book.proofs.Finding.{on-list, none-found, finds, to_replace-rest}
use Rattle.market_book.proofs.book.Book.replace.Goals as goal

pub returns-in_default-clause-step : goal.returns-in_default-clause-step
returns-in_default-clause-step c =
    let p = law.is_live_as c.args.request.now.token in
    let eo = c.as_slice.ensures.value ∙ ap (λ (x : law.Machine). x.book) c.self.view_is in
    rw (sym (ap (find p) eo) ∙ none-found p c.as_slice.result.now c.in_default.ensures)
    (record { machine_is = refl; says_is = c.new.ensures.items })

pub returns-in-Refuse-clause-step : goal.returns-in-Refuse-clause-step
returns-in-Refuse-clause-step c =
    let p = law.is_live_as c.args.request.now.token in
    let eo = ap (λ (x : law.Machine). x.book) c.self.view_is in
    let f = on-list p c.as_slice.result.now c.args.self.now.book c.in-Some.place
    (c.as_slice.ensures.value ∙ eo) c.in-Some.ensures in
    let found = finds p c.args.self.now.book c.in-Some.place f in
    let unused : law.is_token_used c.args.self.now c.args.request.now.replacement_token ≡ false = search rules in
    IfOk-weaker c.reject.result _ _ (λ says h. rw (found, unused, c.in-Refuse.is, ← c.rejected_replacement.ensures) h)
    c.reject.ensures.step

pub returns-in-TakeOff-clause-step : goal.returns-in-TakeOff-clause-step
returns-in-TakeOff-clause-step c =
    let p = law.is_live_as c.args.request.now.token in
    let eo = ap (λ (x : law.Machine). x.book) c.self.view_is in
    let f = on-list p c.as_slice.result.now c.args.self.now.book c.in-Some.place
    (c.as_slice.ensures.value ∙ eo) c.in-Some.ensures in
    let found = finds p c.args.self.now.book c.in-Some.place f in
    let unused : law.is_token_used c.args.self.now c.args.request.now.replacement_token ≡ false = search rules in
    IfOk-weaker c.cancel_all.result _ _ (λ says h. rw (found, unused, c.in-TakeOff.is) (h f.one found))
    c.cancel_all.ensures.step

pub returns-in-AcceptDead-clause-step : goal.returns-in-AcceptDead-clause-step
returns-in-AcceptDead-clause-step c =
    let p = law.is_live_as c.args.request.now.token in
    let eo = ap (λ (x : law.Machine). x.book) c.self.view_is in
    let f = on-list p c.as_slice.result.now c.args.self.now.book c.in-Some.place
    (c.as_slice.ensures.value ∙ eo) c.in-Some.ensures in
    let found = finds p c.args.self.now.book c.in-Some.place f in
    let unused : law.is_token_used c.args.self.now c.args.request.now.replacement_token ≡ false = search rules in
    IfOk-weaker c.move_order.result _ _ (λ says h. rw (found, unused, c.in-AcceptDead.is) (h f.one found))
    c.move_order.ensures.step

pub returns-in_default-choice : goal.returns-in_default-choice
returns-in_default-choice c =
    let p = law.is_live_as c.args.request.now.token in
    let eo = ap (λ (x : law.Machine). x.book) c.self.view_is in
    let f = on-list p c.as_slice.result.now c.args.self.now.book c.in-Some.place
    (c.as_slice.ensures.value ∙ eo) c.in-Some.ensures in
    let found = finds p c.args.self.now.book c.in-Some.place f in
    let unused : law.is_token_used c.args.self.now c.args.request.now.replacement_token ≡ false = search rules in
    let rest = to_replace-rest c.args.choice c.in_default-choice.not-AcceptDead c.in_default-choice.not-Refuse
    c.in_default-choice.not-TakeOff in
    record {
      step = IfOk-weaker c.move_order-in_default-choice.result _ _
          (λ says h. rw (found, unused, rest) (h f.one found)) c.move_order-in_default-choice.ensures.step;
      err = c.move_order-in_default-choice.ensures.err;
    }
