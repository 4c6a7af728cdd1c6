use Rattle.std.proofs.Common.{List, ℕ, ◌++◌, length, ap, ◌∙◌}
use Rattle.std.specs.Int.{w64, to_be_bytes}
use Rattle.journal_log.proofs.Kept.{three-more}
use Rattle.journal_log.proofs.sized.append_sized.Goals as goal

pub returns : goal.returns
returns c =
    three-more c.args.out.now.items c.to_be_bytes-size.result c.to_be_bytes-sum.result c.args.page.now
    c.extend_from_slice.new.self.items c.extend_from_slice-2.new.self.items c.extend_from_slice-3.new.self.items
    c.in_ok-extend_from_slice.ensures.items c.in_ok-extend_from_slice-2.ensures.items
    c.in_ok-extend_from_slice-3.ensures.items
    ∙ ap (λ (l : List ℕ). c.args.out.now.items ++ (l ++ (c.to_be_bytes-sum.result ++ c.args.page.now)))
    c.to_be_bytes-size.ensures
    ∙ ap (λ (l : List ℕ). c.args.out.now.items ++ (to_be_bytes w64 (length c.args.page.now) ++ (l ++ c.args.page.now)))
    (c.to_be_bytes-sum.ensures ∙ ap (λ (n : ℕ). to_be_bytes w64 n) c.sum_of.ensures)
