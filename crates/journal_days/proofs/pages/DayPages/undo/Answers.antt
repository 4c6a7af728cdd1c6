use Rattle.std.proofs.Common.{List, ℕ, Vec, take, sym, ap, ◌∙◌}
use Rattle.std.proofs.lemmas.List.{take-map}
use Rattle.std.specs.declared.alloc.Global.{Global}
use Rattle.journal_days.specs.Cut.{last_cut, texts}
use Rattle.journal_days.proofs.pages.DayPages.undo.Goals as goal

pub returns : goal.returns
returns c =
    let pages : List (Vec ℕ Global) = c.self.inside.pages.items in
    let count : ℕ = c.args.mark.pages in
    c.cut_last.ensures
    ∙ ap (λ (ps : List (Vec ℕ Global)). last_cut c.args.mark.bytes (texts ps)) c.truncate.ensures.items
    ∙ ap (last_cut c.args.mark.bytes) (sym (take-map (λ (v : Vec ℕ Global). v.items) count pages)
    ∙ ap (take count) c.self.view_is)
