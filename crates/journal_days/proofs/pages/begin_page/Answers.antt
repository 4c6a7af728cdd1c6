use Rattle.std.proofs.Common.{List, ℕ, ◌∷◌, [], ◌++◌, Vec, ap, ◌∙◌}
use Rattle.std.proofs.lemmas.Result.{on_ok_weaker}
use Rattle.std.specs.declared.alloc.Global.{Global}
use Rattle.journal_pages.specs.Seen.{record_of}
use Rattle.journal_days.specs.Cut.{page_with, record_text, texts}
use Rattle.journal_days.proofs.pages.begin_page.Goals as goal

pub returns-clause-ok : goal.returns-clause-ok
returns-clause-ok c =
    let pages : List (Vec ℕ Global) = c.args.pages.now.items in
    let text : List ℕ = record_text (record_of c.args.head.now (c.args.front.now ++ c.args.back.now)) in
    on_ok_weaker c.push_page.result
    (λ e. e ∙ ap (λ (p : List ℕ). texts pages ++ p ∷ [])
    (c.in_ok-page.ensures ∙ ap (λ n. page_with n text) c.requires.number))
    c.push_page.ensures.ok
