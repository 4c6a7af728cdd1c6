use Rattle.std.proofs.Common.{◌≡◌, ◌++◌, ◌∙◌, List, ℕ, length, sym, ap, append_assoc}
use Rattle.std.specs.Int.{w64, to_be_bytes}
use Rattle.journal_file.specs.Sum.{sum_of}
use Rattle.journal_file.proofs.sized_bytes.SizedBytes.push.Goals as goal

pub returns : goal.returns
returns c =
    let old : List ℕ = c.args.self.now in
    let page : List ℕ = c.args.page.now in
    let a : List ℕ = c.to_be_bytes.result in
    let b : List ℕ = c.to_be_bytes-2.result in
    let size : a ≡ to_be_bytes w64 (length page) = c.to_be_bytes.ensures in
    let sum : b ≡ to_be_bytes w64 (sum_of page) = c.to_be_bytes-2.ensures ∙ ap (to_be_bytes w64) c.sum_of.ensures in
    let noted : c.note.new.self.bytes ≡ old ++ a = c.note.ensures ∙ ap (λ (l : List ℕ). l ++ a) c.self.view_is in
    c.note-3.ensures ∙ ap (λ (l : List ℕ). l ++ page) (c.note-2.ensures ∙ ap (λ (l : List ℕ). l ++ b) noted)
    ∙ append_assoc (old ++ a) b page ∙ append_assoc old a (b ++ page)
    ∙ ap (λ (l : List ℕ). old ++ l) (sym (append_assoc a b page))
    ∙ ap (λ (l : List ℕ). old ++ ((l ++ b) ++ page)) size
    ∙ ap (λ (l : List ℕ). old ++ ((to_be_bytes w64 (length page) ++ l) ++ page)) sum
