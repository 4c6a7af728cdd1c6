use Rattle.std.proofs.Common.{List, ℕ, ◌++◌, ◌≡◌, length, ap, ◌∙◌}
use Rattle.std.specs.Int.{w64, to_be_bytes}
use Rattle.journal_pages.specs.declared.version.Version.TheVariants.{Two}
use Rattle.journal_pages.specs.Page.{page_name}
use Rattle.journal_file.specs.File.{before_page}
use Rattle.journal_file.specs.Sum.{sum_of}
use Rattle.journal_log.specs.Pieces.{page_of}
use Rattle.journal_log.proofs.Kept.{four-more}
use Rattle.journal_log.proofs.sized.append_head.Goals as goal

pub returns : goal.returns
returns c =
    let out : List ℕ = c.args.out.now.items in
    let page : List ℕ = page_of c.args.before c.args.pieces in
    let number : List ℕ = to_be_bytes w64 c.args.before in
    let size : c.to_be_bytes.result ≡ to_be_bytes w64 (length page) =
    c.to_be_bytes.ensures ∙ ap (λ (n : ℕ). to_be_bytes w64 n) (c.size.ensures ∙ ap length c.in-Ok.ensures) in
    let sum : c.to_be_bytes-2.result ≡ to_be_bytes w64 (sum_of page) =
    c.to_be_bytes-2.ensures ∙ ap (λ (n : ℕ). to_be_bytes w64 n) (c.sum.ensures ∙ ap sum_of c.in-Ok.ensures) in
    four-more out c.to_be_bytes.result c.to_be_bytes-2.result (page_name Two) c.to_be_bytes-3.result
    c.extend_from_slice.new.self.items c.extend_from_slice-2.new.self.items c.extend_from_slice-3.new.self.items
    c.extend_from_slice-4.new.self.items c.in_ok-extend_from_slice.ensures.items
    c.in_ok-extend_from_slice-2.ensures.items c.in_ok-extend_from_slice-3.ensures.items
    c.in_ok-extend_from_slice-4.ensures.items
    ∙ ap (λ (l : List ℕ). out ++ ((l ++ c.to_be_bytes-2.result) ++ (page_name Two ++ c.to_be_bytes-3.result))) size
    ∙ ap (λ (l : List ℕ). out ++ ((to_be_bytes w64 (length page) ++ l) ++ (page_name Two ++ c.to_be_bytes-3.result))) sum
    ∙ ap (λ (l : List ℕ). out ++ (before_page Two page ++ (page_name Two ++ l))) c.to_be_bytes-3.ensures
