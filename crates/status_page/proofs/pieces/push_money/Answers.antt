use Rattle.std.proofs.Common.{◌≡◌, ◌++◌, ◌∙◌, List, ℕ, subst}
use Rattle.std.specs.Prelude.{OnOk, codes, string_bytes}
use Rattle.status_page.specs.Page.{told}
use Rattle.status_page.proofs.pieces.push_money.Goals as goal

pub returns : goal.returns
returns c = subst (λ (text : List ℕ). OnOk c.push_told.result (string_bytes c.push_told.new.page
    ≡ string_bytes c.args.page.now ++ told (codes "<td class=\"n\">") text))
    (c.as_slice.ensures ∙ c.money_text-text.ensures) c.push_told.ensures
