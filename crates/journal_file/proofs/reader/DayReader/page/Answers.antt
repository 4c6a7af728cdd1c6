use Rattle.std.proofs.Common.{refl, sym, ap, ◌∙◌}
use Rattle.journal_days.specs.Day.{day_fault, version_of}
use Rattle.journal_file.specs.Reader.{Reading}
use Rattle.journal_file.proofs.Streaming.{none-by}
use Rattle.journal_file.proofs.reader.DayReader.page.Goals as goal

pub give-requires-clause-whole : goal.give-requires-clause-whole
give-requires-clause-whole g c =
    ap (λ (x : Reading). day_fault (version_of x.taken) x.taken) (sym c.self.view_is)
    ∙ none-by (day_fault (version_of c.self.inside.judge) c.self.inside.judge)
    (sym c.is_whole.ensures ∙ c.if-is_whole.true)

pub over-requires-clause-front : goal.over-requires-clause-front
over-requires-clause-front g c = record {
  page = c.in-Ok.page.now;
  behind = c.in-Ok.field-0-1.now;
  same = ap (λ (x : Reading). x.left) (sym c.self.view_is) ∙ sym c.left.ensures ∙ c.in-Ok.ensures;
  sized = c.if-size-eq0.true;
}

pub take-requires-clause-front : goal.take-requires-clause-front
take-requires-clause-front g c = record {
  page = c.in-Ok.page.now;
  behind = c.in-Ok.field-0-1.now;
  same = ap (λ (x : Reading). x.left) (sym c.self.view_is) ∙ sym c.left.ensures ∙ c.in-Ok.ensures;
  sized = refl;
}
