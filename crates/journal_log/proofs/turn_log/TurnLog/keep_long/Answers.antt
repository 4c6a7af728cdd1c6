use Rattle.std.proofs.Common.{◌<◌, ◌++◌, ℕ, List, length, subst, sym, ap, ◌∙◌, arith, length-append, refl}
use Rattle.journal_pages.specs.Page.{page_front}
use Rattle.journal_log.specs.Pieces.{bytes_ahead, page_of}
use Rattle.journal_log.specs.Since.{bytes_since}
use Rattle.journal_log.specs.Kept.{HasDay, TurnLogState}
use Rattle.journal_log.proofs.Keeping.{put-marked}
use Rattle.journal_log.proofs.turn_log.TurnLog.keep_long.Goals as goal

pub returns-clause-told : goal.returns-clause-told
returns-clause-told g c before has more =
    let all : List (List ℕ) = c.args.history.now.pages in
    let old : TurnLogState g.row.F.Denot = record {
      file = c.self.inside.log.file;
      shut = c.self.inside.log.shut;
      pages = c.self.inside.mark.pages;
      bytes = c.self.inside.mark.bytes;
      records = c.self.inside.mark.records;
    } in
    let page : List ℕ = page_of old.records c.args.pieces in
    let was : HasDay g.F.LogFile.seen g.F.LogFile.may_leave before old =
    subst (λ (l : TurnLogState g.row.F.Denot). HasDay g.F.LogFile.seen g.F.LogFile.may_leave before l)
    (sym c.self.view_is) has in
    let ends = c.mark_of-self-inside.ensures.mark in
    let new : TurnLogState g.row.F.Denot = record {
      file = c.commit_pieces.new.self.file;
      shut = c.commit_pieces.new.self.shut;
      pages = c.mark_of-self-inside.result.pages;
      bytes = c.mark_of-self-inside.result.bytes;
      records = c.mark_of-self-inside.result.records;
    } in
    let long : 12 < length page =
    omega (arith, length-append (page_front old.records) (bytes_ahead c.args.pieces), c.requires.some) in
    put-marked g.F.LogFile.seen g.F.LogFile.may_leave before all page old new.file new.shut was more ends.day
    (ap (λ (l : List ℕ). page_front old.records ++ l) (c.requires.since
    ∙ ap (λ (l : TurnLogState g.row.F.Denot). bytes_since l.pages l.bytes all) (sym c.self.view_is)))
    (λ short. absurd (omega (arith, long, short)))
    (λ is. c.in_ok-commit_pieces.ensures.told)
    (λ is. (c.in_ok-commit_pieces.ensures.open, c.in_ok-commit_pieces.ensures.goes_on))
    new refl refl (record { day = ends.day; pages = ends.pages; bytes = ends.bytes; records = ends.records })
