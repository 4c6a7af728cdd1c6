use Rattle.std.proofs.Common.{◌+◌, ◌%◌, ◌^◌, ◌++◌, ◌∙◌, List, ℕ, Vec, length, sym, ap, subst, refl}
use Rattle.std.specs.declared.alloc.Global.{Global}
use Rattle.journal_pages.specs.Page.{page_front, page_records}
use Rattle.journal_pages.specs.declared.version.Version.TheVariants.{Two}
use Rattle.std.proofs.lemmas.List.{length-map}
use Rattle.journal_days.specs.Cut.{texts}
use Rattle.journal_log.specs.State.{LogState}
use Rattle.journal_log.specs.Kept.{HasDay, TurnLogState}
use Rattle.journal_log.specs.Since.{bytes_since}
use Rattle.journal_log.proofs.Keeping.{put-day, same-day}
use Rattle.journal_log.proofs.Recent.{last-count, last-sized, since-last}
use Rattle.journal_log.proofs.turn_log.TurnLog.keep.Goals as goal

pub returns-then-has_all-clause-told : goal.returns-then-has_all-clause-told
returns-then-has_all-clause-told g c before has more =
    let ends = c.has_all.ensures c.if-has_all.true in
    same-day g.F.LogFile.seen g.F.LogFile.may_leave before c.args.history.now.pages c.args.self.now more ends.pages
    ends.bytes has

pub keep_long-requires-clause-since : goal.keep_long-requires-clause-since
keep_long-requires-clause-since g c =
    let pages : List (Vec ℕ Global) = c.recent-left.result.pages.now in
    let all : List (List ℕ) = c.args.history.now.pages in
    c.since-pieces.ensures
    ∙ sym (since-last c.recent-left.result.left (texts pages) all c.self.inside.mark.pages c.in-Some.count
    c.self.inside.mark.bytes c.recent-left.ensures.last c.in-Some.ensures)
    ∙ ap (λ (l : TurnLogState g.row.F.Denot). bytes_since l.pages l.bytes all) c.self.view_is

pub returns-clause-told : goal.returns-clause-told
returns-clause-told g c before has more =
    let pages : List (Vec ℕ Global) = c.recent-left.result.pages.now in
    let left : ℕ = c.recent-left.result.left in
    let all : List (List ℕ) = c.args.history.now.pages in
    let last = c.recent-left.ensures.last in
    let page : List ℕ = c.as_slice.result.now in
    let old : TurnLogState g.row.F.Denot = record {
      file = c.self.inside.log.file;
      shut = c.self.inside.log.shut;
      pages = c.self.inside.mark.pages;
      bytes = c.self.inside.mark.bytes;
      records = c.self.inside.mark.records;
    } in
    let was : HasDay g.F.LogFile.seen g.F.LogFile.may_leave before old =
    subst (λ (l : TurnLogState g.row.F.Denot). HasDay g.F.LogFile.seen g.F.LogFile.may_leave before l)
    (sym c.self.view_is) has in
    let same = c.in_ok-put_page.ensures.none in
    let new : TurnLogState g.row.F.Denot = record {
      file = c.put_page.new.log.file;
      shut = c.put_page.new.log.shut;
      pages = c.mark_at-self-inside.result.pages;
      bytes = c.mark_at-self-inside.result.bytes;
      records = c.mark_at-self-inside.result.records;
    } in
    put-day g.F.LogFile.seen g.F.LogFile.may_leave before all page old c.put_page.new.log.file c.put_page.new.log.shut
    was more c.recent-left.ensures.day
    (c.as_slice.ensures.value ∙ c.in_ok-page.ensures
    ∙ ap (λ (b : List ℕ). page_front old.records ++ b)
    (sym (since-last left (texts pages) all old.pages c.in-Some.count old.bytes last c.in-Some.ensures)))
    (λ short. (
      ap (λ (l : LogState g.row.F.Denot). l.file) (same short),
      ap (λ (l : LogState g.row.F.Denot). l.shut)
          (same short),
    ))
    c.in_ok-put_page.ensures.some c.in_ok-put_page.ensures.goes_on
    new refl refl
    (c.mark_at-self-inside.ensures.pages ∙ ap (λ n. left + n) (sym (length-map pages (λ (v : Vec ℕ Global). v.items)))
    ∙ sym (last-count left (texts pages) all last))
    (c.mark_at-self-inside.ensures.bytes ∙ sym (last-sized left (texts pages) all last))
    (c.mark_at-self-inside.ensures.records ∙ ap (λ n. (c.self.inside.mark.records + n) % 2 ^ 64)
    (c.count_in_page.ensures ∙ ap (λ (l : List ℕ). length (page_records Two l) % 2 ^ 64)
    (c.as_slice-2.ensures.value ∙ sym c.as_slice.ensures.value)))
