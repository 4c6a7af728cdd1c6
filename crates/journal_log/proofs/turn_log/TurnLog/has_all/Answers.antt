use Rattle.std.proofs.Common.{◌+◌, ◌∙◌, List, ℕ, Vec, sym, ap}
use Rattle.std.specs.declared.alloc.Global.{Global}
use Rattle.std.proofs.lemmas.List.{length-map}
use Rattle.journal_days.specs.Cut.{texts}
use Rattle.journal_log.specs.Kept.{TurnLogState}
use Rattle.journal_log.proofs.Keeping.{same-marks}
use Rattle.journal_log.proofs.Recent.{last-count, last-sized}
use Rattle.journal_log.proofs.turn_log.TurnLog.has_all.Goals as goal

pub returns : goal.returns
returns g c is =
    let pages : List (Vec ℕ Global) = c.recent-left.result.pages.now in
    let left : ℕ = c.recent-left.result.left in
    let all : List (List ℕ) = c.args.history.now.pages in
    let last = c.recent-left.ensures.last in
    let same = same-marks c.mark_at.result.pages c.self.inside.mark.pages c.mark_at.result.bytes
    c.self.inside.mark.bytes c.mark_at.result.records c.self.inside.mark.records (sym c.eq.ensures ∙ is) in
    record {
      pages =
          last-count left (texts pages) all last ∙ ap (λ n. left + n) (length-map pages (λ (v : Vec ℕ Global). v.items))
          ∙ sym c.mark_at.ensures.pages ∙ same.0 ∙ ap (λ (l : TurnLogState g.row.F.Denot). l.pages) c.self.view_is;
      bytes = last-sized left (texts pages) all last ∙ sym c.mark_at.ensures.bytes ∙ same.1
          ∙ ap (λ (l : TurnLogState g.row.F.Denot). l.bytes) c.self.view_is;
    }
