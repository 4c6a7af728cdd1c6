use Rattle.std.proofs.Common.{inr, sym, ◌∙◌}
use Rattle.journal_file.proofs.Files.{has-more, no-error, unfinished-file, went-well, whole-file, wrong-page}
use Rattle.journal_file.proofs.reading.pages_of.Goals as goal

pub pages-preserved : goal.pages-preserved
pages-preserved c =
    let taken = no-error _ c.take.result c.in_default.not-Err c.take.ensures.taken in
    has-more c.args.form c.pages.pages c.push_page.new.pages c.args.file.now c.pages.rest.now c.in-Ok.parts.1.now
    c.in-Ok.parts.0.now c.pages.judge c.take.new.self c.pages.invariant c.in-Ok.ensures
    (sym c.is_empty.ensures ∙ c.if-is_empty.false)
    (went-well c.push_page.result (sym c.is_err.ensures.value ∙ c.if-is_err.false) c.push_page.ensures)
    taken.0 taken.1

pub returns-in-Err : goal.returns-in-Err
returns-in-Err c =
    unfinished-file c.args.form c.pages.pages c.args.file.now c.pages.rest.now c.pages.judge c.requires
    c.pages.invariant c.unfinished.result c.in-Err.fault c.in-Err.ensures c.unfinished.ensures

pub returns-in-Err-take : goal.returns-in-Err-take
returns-in-Err-take c =
    inr (wrong-page c.args.form c.pages.pages c.args.file.now c.pages.rest.now c.pages.judge c.requires
    c.pages.invariant c.in-Ok.parts.0.now c.in-Ok.parts.1.now c.in-Err-take.number c.in-Err-take.fault c.in-Ok.ensures
    (sym c.is_empty.ensures ∙ c.if-is_empty.false) c.in-Err-take.ensures.taken.1)

pub returns-then-is_empty : goal.returns-then-is_empty
returns-then-is_empty c =
    whole-file c.args.form c.pages.pages c.args.file.now c.pages.rest.now c.pages.judge c.requires
    c.pages.invariant c.whole.result c.in-Ok.parts.1.now c.in-Ok.parts.0.now c.in-Ok.ensures
    (sym c.is_empty.ensures ∙ c.if-is_empty.true) c.whole.ensures
