use Rattle.std.proofs.Common.{sym, ap, ◌∙◌, ◌∷◌, []}
use Rattle.market_law.specs.Machine as law
use Rattle.market_book.proofs.Finding.{in-book, is-found, says-all, some-same}
use Rattle.market_book.proofs.book.Book.cancel_all.Goals as goal

pub returns-clause-step : goal.returns-clause-step
returns-clause-step c = λ c' e.
    let p = law.is_live_as c.args.token in
    let eo = ap (λ (x : law.Machine). x.book) c.self.view_is in
    let found = is-found p c.args.self.now c.self.inside.orders.items c.args.place c.index_mut-order.result.now eo
    c.requires c.index_mut-order.ensures.value in
    let same = some-same c.index_mut-order.result.now c' (sym found ∙ e) in
    let shares = c.unfilled-shares.ensures ∙ ap (λ (o : law.BookOrder). o.unfilled) same in
    record {
      machine_is = in-book p (law.taken_off c'.unfilled) c.args.self.now c.self.inside.used.items c.self.inside.matches
          c.self.inside.orders.items c.self.view_is
          c.args.place c.index_mut-order.result.now c.take_off.new.self c.requires c.index_mut-order.ensures.value
          (c.take_off.ensures ∙ ap (λ q. law.taken_off q c.index_mut-order.result.now) shares);
      says_is = c.in_ok-says.ensures ∙ ap (λ m. m ∷ [])
          (says-all c.canceled.result c.index_mut-order.result.now c' c.unfilled-shares.result same shares
          c.canceled.ensures);
    }
