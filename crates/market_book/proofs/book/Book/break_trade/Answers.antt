use Rattle.std.proofs.Common.{refl, sym, ap, ◌∙◌, ◌∷◌, []}
use Rattle.std.specs.List.{find}
use Rattle.market_law.specs.Machine as law
use Rattle.market_book.proofs.Finding.{in-book, is-found, on-list, none-found}
use Rattle.market_book.proofs.book.Book.break_trade.Goals as goal

pub returns-in_default-clause-step : goal.returns-in_default-clause-step
returns-in_default-clause-step c =
    let p = law.has_trade c.args.breaking.now.match_number in
    let eo = c.as_slice.ensures.value ∙ ap (λ (x : law.Machine). x.book) c.self.view_is in
    rw (sym (ap (find p) eo) ∙ none-found p c.as_slice.result.now c.in_default.ensures)
    (record { machine_is = refl; says_is = c.new.ensures.items })

pub returns-clause-step : goal.returns-clause-step
returns-clause-step c =
    let p = law.has_trade c.args.breaking.now.match_number in
    let eo = ap (λ (x : law.Machine). x.book) c.self.view_is in
    let f = on-list p c.as_slice.result.now c.args.self.now.book c.in-Some.place
    (c.as_slice.ensures.value ∙ eo) c.in-Some.ensures in
    let found = is-found p c.args.self.now c.self.inside.orders.items c.in-Some.place c.index_mut-order.result.now eo f
    c.index_mut-order.ensures.value in
    rw found (record {
      machine_is = in-book p (law.broken_off c.args.breaking.now.match_number) c.args.self.now c.self.inside.used.items
          c.self.inside.matches c.self.inside.orders.items c.self.view_is
          c.in-Some.place c.index_mut-order.result.now c.break_trade.new.self f c.index_mut-order.ensures.value
          c.break_trade.ensures;
      says_is = c.in_ok-says.ensures ∙ ap (λ m. m ∷ []) c.broken_trade.ensures;
    })
