use Rattle.std.proofs.Common.{◌∙◌, ◌++◌, List, ℕ, Vec, sym, ap}
use Rattle.std.specs.declared.alloc.Global.{Global}
use Rattle.journal_pages.specs.Page.{page_front}
use Rattle.journal_days.specs.Cut.{texts}
use Rattle.journal_days.specs.Left.{records_left}
use Rattle.journal_log.specs.declared.mark.HistoryMark.{HistoryMark}
use Rattle.journal_log.proofs.Recent.{since-last}
use Rattle.journal_log.proofs.Since.{Since, other-part, same-part, since-mark}
use Rattle.journal_log.proofs.comparing.compare_since.Goals as goal

pub returns-in-Ok : goal.returns-in-Ok
returns-in-Ok c before ends more =
    let pages : List (Vec ℕ Global) = c.recent-left.result.pages.now in
    let left : ℕ = c.recent-left.result.left in
    let all : List (List ℕ) = c.args.history.now.pages in
    let mark : HistoryMark = c.args.mark.now in
    let page : List ℕ = c.in_ok-page_since.field-0.items in
    let since : Since before all page = since-mark before all mark page ends c.recent-left.ensures.day more
    (c.in_ok-page_since.ensures ∙ ap (λ (b : List ℕ). page_front mark.records ++ b)
    (sym (since-last left (texts pages) all mark.pages c.in-Some.count mark.bytes c.recent-left.ensures.last
    c.in-Some.ensures))) in
    same-part before all (texts c.args.part.now) page (records_left c.of-own.result) (records_left c.of.result)
    c.args.batches c.in-Ok.batches since c.of-own.ensures c.of.ensures c.in-Ok.ensures

pub returns : goal.returns
returns c before ends more =
    let pages : List (Vec ℕ Global) = c.recent-left.result.pages.now in
    let left : ℕ = c.recent-left.result.left in
    let all : List (List ℕ) = c.args.history.now.pages in
    let mark : HistoryMark = c.args.mark.now in
    let page : List ℕ = c.in_ok-page_since.field-0.items in
    let since : Since before all page = since-mark before all mark page ends c.recent-left.ensures.day more
    (c.in_ok-page_since.ensures ∙ ap (λ (b : List ℕ). page_front mark.records ++ b)
    (sym (since-last left (texts pages) all mark.pages c.in-Some.count mark.bytes c.recent-left.ensures.last
    c.in-Some.ensures))) in
    other-part before all (texts c.args.part.now) page (records_left c.of-own.result) (records_left c.of.result)
    c.args.batches c.in-Err.place since c.of-own.ensures c.of.ensures c.in-Err.ensures
