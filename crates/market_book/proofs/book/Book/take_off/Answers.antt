use Rattle.std.proofs.Common.{refl, sym, ap, ◌∙◌, ◌∷◌, []}
use Rattle.std.specs.List.{find}
use Rattle.market_law.specs.Machine as law
use Rattle.market_law.specs.Messages as say
use Rattle.market_book.proofs.Finding.{in-book, is-found, on-list, none-found, is-one}
use Rattle.std.proofs.Common.{get_or}
use Rattle.market_book.proofs.book.Book.take_off.Goals as goal

pub returns-in_default-clause-step : goal.returns-in_default-clause-step
returns-in_default-clause-step c =
    let p = law.is_live_as c.args.removal.now.token in
    let eo = c.as_slice.ensures.value ∙ ap (λ (x : law.Machine). x.book) c.self.view_is in
    rw (sym (ap (find p) eo) ∙ none-found p c.as_slice.result.now c.in_default.ensures)
    (record { machine_is = refl; says_is = c.new.ensures.items })

pub returns-clause-step : goal.returns-clause-step
returns-clause-step c =
    let p = law.is_live_as c.args.removal.now.token in
    let eo = ap (λ (x : law.Machine). x.book) c.self.view_is in
    let f = on-list p c.as_slice.result.now c.args.self.now.book c.in-Some.place
    (c.as_slice.ensures.value ∙ eo) c.in-Some.ensures in
    let here = is-one p c.args.self.now.book c.in-Some.place c.index_mut-order.result.now f
    (c.index_mut-order.ensures.value ∙ ap (λ xs. get_or xs c.in-Some.place c.index_mut-order.result.now) eo) in
    let there = is-one p c.args.self.now.book c.in-Some.place c.index.result.now f
    (c.index.ensures ∙ ap (λ xs. get_or xs c.in-Some.place c.index.result.now) eo) in
    let found = is-found p c.args.self.now c.self.inside.orders.items c.in-Some.place c.index.result.now eo f
    c.index.ensures in
    rw (found, sym c.if-not-is_open_for.ensures) (record {
      machine_is = in-book p (law.taken_off c.args.removal.now.shares) c.args.self.now c.self.inside.used.items
          c.self.inside.matches c.self.inside.orders.items c.self.view_is
          c.in-Some.place c.index_mut-order.result.now c.take_off.new.self f c.index_mut-order.ensures.value
          c.take_off.ensures;
      says_is = c.in_ok-says.ensures ∙ ap (λ m. m ∷ []) (c.canceled.ensures c.args.removal.now.shares_set
          ∙ ap (λ (o : law.BookOrder). say.canceled
          (law.live_of o) c.args.removal.now.shares c.args.removal.now.shares_set) (here ∙ sym there));
    })

pub returns-then-not-is_open_for-clause-step : goal.returns-then-not-is_open_for-clause-step
returns-then-not-is_open_for-clause-step c =
    let p = law.is_live_as c.args.removal.now.token in
    let eo = ap (λ (x : law.Machine). x.book) c.self.view_is in
    let f = on-list p c.as_slice.result.now c.args.self.now.book c.in-Some.place
    (c.as_slice.ensures.value ∙ eo) c.in-Some.ensures in
    let found = is-found p c.args.self.now c.self.inside.orders.items c.in-Some.place c.index.result.now eo f
    c.index.ensures in
    rw (found, sym c.if-not-is_open_for.ensures)
    (record { machine_is = refl; says_is = c.new-then-not-is_open_for.ensures.items })
