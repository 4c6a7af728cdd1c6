use Rattle.std.proofs.Common.{ℕ, List, ◌++◌, length, drop, replicate, ap, ◌∙◌}
use Rattle.std.proofs.lemmas.List.{drop-replicate}
use Rattle.undo_index.proofs.text_key.padded.Goals as goal

abbrev zeros : ℕ → List ℕ
zeros n = replicate n 0

pub returns : goal.returns
returns c =
    ap (λ (xs : List ℕ). xs ++ drop (length c.args.text.now) (zeros 64)) c.copy_from_slice.ensures.after
    ∙ ap (λ (ys : List ℕ). c.args.text.now ++ ys) (drop-replicate (length c.args.text.now) 64 0)
