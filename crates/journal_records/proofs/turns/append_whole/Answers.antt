use Rattle.std.proofs.Common.{List, ℕ, ap, ◌∙◌}
use Rattle.journal_days.specs.Cut.{cut_back}
use Rattle.journal_records.proofs.turns.append_whole.Goals as goal

pub returns-in-Err-clause-err : goal.returns-in-Err-clause-err
returns-in-Err-clause-err c =
    c.undo.ensures ∙ ap (λ (p : List (List ℕ)). cut_back c.mark-mark.result.pages c.mark-mark.result.bytes p)
    c.in-Err.ensures.kept.same ∙ c.mark-mark.ensures c.in-Err.ensures.kept.records
