use Rattle.std.proofs.Common.{◌≡◌, Bool, Some, None, ℕ, List, Vec, length, ap, sym, ◌∙◌}
use Rattle.std.specs.Prelude.{◌==◌}
use Rattle.std.specs.declared.alloc.Global.{Global}
use Rattle.journal_pages.specs.declared.place.Place.{Place}
use Rattle.journal_pages.specs.declared.version.Version.{Version}
use Rattle.journal_pages.specs.Page.{page_fault}
use Rattle.journal_pages.proofs.Listed.{both-none}
use Rattle.journal_days.specs.Cut.{number_behind, texts}
use Rattle.journal_days.specs.Day.{fault_from, page_behind, page_fault_in_day}
use Rattle.journal_days.proofs.Judged.{first-right, first-wrong}
use Rattle.journal_days.proofs.day.judge_pages.Goals as goal

pub returns-in-Err : goal.returns-in-Err
returns-in-Err c =
    let version : Version = c.args.version in
    let text : List ℕ = c.as_slice-page.result.now in
    let behind : List (Vec ℕ Global) = c.in-Some.behind.now in
    let e : page_fault_in_day version (length behind == 0) c.loop-first.number c.loop-first.place text
    ≡ Some c.in-Err.fault =
    ap (λ (last : Bool). page_fault_in_day version last c.loop-first.number c.loop-first.place text)
    (sym c.is_empty.ensures) ∙ c.in-Err.ensures in
    sym c.loop-first.invariant
    ∙ first-wrong version c.loop-first.index c.loop-first.number c.loop-first.place c.in-Some.first.now behind text
    c.as_slice-page.ensures.value c.loop-first.rest.now c.in-Err.fault c.in-Some.ensures.cases.0 e

pub loop-first-preserved : goal.loop-first-preserved
loop-first-preserved c =
    let version : Version = c.args.version in
    let text : List ℕ = c.as_slice-page.result.now in
    let behind : List (Vec ℕ Global) = c.in-Some.behind.now in
    let e : page_fault_in_day version (length behind == 0) c.loop-first.number c.loop-first.place text ≡ None =
    ap (λ (last : Bool). page_fault_in_day version last c.loop-first.number c.loop-first.place text)
    (sym c.is_empty.ensures) ∙ c.in-Ok.ensures.0 in
    ap (λ i. fault_from version i c.judged_number_behind-number.result c.in-Ok.later (texts behind))
    c.page_behind-index.ensures
    ∙ ap (λ n. fault_from version (page_behind c.loop-first.index) n c.in-Ok.later (texts behind))
    c.judged_number_behind-number.ensures
    ∙ ap (λ (p : Place). fault_from version (page_behind c.loop-first.index) (number_behind text) p (texts behind))
    c.in-Ok.ensures.1
    ∙ sym (first-right version c.loop-first.index c.loop-first.number c.loop-first.place c.in-Some.first.now behind text
    c.as_slice-page.ensures.value c.loop-first.rest.now c.in-Some.ensures.cases.0 e)
    ∙ c.loop-first.invariant

pub judged_number_behind-number-requires : goal.judged_number_behind-number-requires
judged_number_behind-number-requires c =
    (both-none (page_fault c.args.version c.as_slice-page.result.now) _ c.in-Ok.ensures.0).0
