use Rattle.std.proofs.Common.{◌+◌, ◌∙◌, List, ℕ, Vec, sym, ap}
use Rattle.std.specs.declared.alloc.Global.{Global}
use Rattle.std.proofs.lemmas.List.{length-map}
use Rattle.journal_days.specs.Cut.{texts}
use Rattle.journal_log.proofs.Recent.{last-count, last-counted, last-sized}
use Rattle.journal_log.proofs.comparing.mark_of.Goals as goal

pub returns-clause-mark : goal.returns-clause-mark
returns-clause-mark c =
    let pages : List (Vec ℕ Global) = c.recent-left.result.pages.now in
    let left : ℕ = c.recent-left.result.left in
    let all : List (List ℕ) = c.args.history.now.pages in
    let last = c.recent-left.ensures.last in
    record {
      day = c.recent-left.ensures.day;
      pages = c.mark_at.ensures.pages
          ∙ ap (λ n. left + n) (sym (length-map pages (λ (v : Vec ℕ Global). v.items)))
          ∙ sym (last-count left (texts pages) all last);
      bytes = c.mark_at.ensures.bytes ∙ sym (last-sized left (texts pages) all last);
      records = c.mark_at.ensures.records ∙ c.next_number.ensures
          ∙ last-counted left (texts pages) all last c.recent-left.ensures.day;
    }
