use Rattle.std.proofs.Common.{◌≡◌, ◌∙◌, true, false, ap, refl, sym}
use Rattle.std.specs.List.{list_any}
use Rattle.market_law.specs.Machine.{BookOrder}
use Rattle.market_law.specs.Rows.{has_had}
use Rattle.market_book.specs.Tokens.{asks_for}
use Rattle.market_book.proofs.Tokens.{had-any}
use Rattle.market_book.proofs.order.BookedOrder.has_had.Goals as goal

pub returns-then-asked_for : goal.returns-then-asked_for
returns-then-asked_for c =
    let any_is = c.asked_for.ensures ∙ ap (list_any (asks_for c.args.token.now)) c.as_slice.ensures.value in
    let asked : list_any (asks_for c.args.token.now) c.self.inside.replacements.items ≡ true = sym any_is
    ∙ c.if-asked_for.true in
    c.if-asked_for.true ∙ sym (ap (λ (o : BookOrder). has_had c.args.token.now o) (sym c.self.view_is)
    ∙ had-any c.args.token.now c.self.inside.entered c.self.inside.replacements.items ∙ rw asked refl)

pub returns-else-asked_for : goal.returns-else-asked_for
returns-else-asked_for c =
    let any_is = c.asked_for.ensures ∙ ap (list_any (asks_for c.args.token.now)) c.as_slice.ensures.value in
    let asked : list_any (asks_for c.args.token.now) c.self.inside.replacements.items ≡ false = sym any_is
    ∙ c.if-asked_for.false in
    c.eq.ensures ∙ sym (ap (λ (o : BookOrder). has_had c.args.token.now o) (sym c.self.view_is)
    ∙ had-any c.args.token.now c.self.inside.entered c.self.inside.replacements.items ∙ rw asked refl)
