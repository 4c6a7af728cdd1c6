use Rattle.std.proofs.Common.{List, ℕ, ◌∷◌, [], ◌++◌, Vec, sym, ap, ◌∙◌}
use Rattle.std.specs.declared.alloc.Global.{Global}
use Rattle.journal_days.specs.Cut.{last_cut, texts}
use Rattle.journal_days.proofs.Cutting.{cut-last, texts-more}
use Rattle.journal_days.proofs.pages.cut_last.Goals as goal

pub returns : goal.returns
returns c =
    let kept : List (Vec ℕ Global) = c.pop.new.self.items in
    let bytes : ℕ = c.args.bytes in
    ap (λ (ps : List (Vec ℕ Global)). texts ps) c.push_reserved.ensures.items ∙ texts-more kept c.truncate.new.self
    ∙ ap (λ (t : List ℕ). texts kept ++ t ∷ []) c.truncate.ensures.items
    ∙ sym (cut-last bytes (texts kept) c.in-Some.last.items)
    ∙ ap (last_cut bytes) (sym (texts-more kept c.in-Some.last)
    ∙ ap (λ (ps : List (Vec ℕ Global)). texts ps) (sym c.in-Some.ensures.items))
