use Rattle.std.proofs.Common.{◌≡◌, List, ℕ, Vec, length, sym, ap, subst, ◌∙◌}
use Rattle.std.proofs.lemmas.List.{length-map}
use Rattle.std.specs.declared.alloc.Global.{Global}
use Rattle.journal_days.specs.Cut.{cut_back, last_size, texts, with_records}
use Rattle.journal_days.proofs.Cutting.{marked}
use Rattle.journal_days.proofs.pages.DayPages.mark.Goals as goal

pub returns : goal.returns
returns c = λ rs.
    let pages : List (Vec ℕ Global) = c.self.inside.pages.items in
    let count : c.len.result ≡ length (texts pages) = c.len.ensures ∙ sym c.deref.ensures.len
    ∙ ap length c.deref.ensures.value ∙ sym (length-map pages (λ (v : Vec ℕ Global). v.items)) in
    let size : c.last_size.result ≡ last_size (texts pages) = c.last_size.ensures
    ∙ ap (λ (ps : List (Vec ℕ Global)). last_size (texts ps)) c.deref.ensures.value in
    subst (λ (now : List (List ℕ)). cut_back c.len.result c.last_size.result (with_records now rs) ≡ now) c.self.view_is
    (ap (λ n. cut_back n c.last_size.result (with_records (texts pages) rs)) count
    ∙ ap (λ n. cut_back (length (texts pages)) n (with_records (texts pages) rs)) size ∙ marked (texts pages) rs)
