use Rattle.std.proofs.Common.{◌≡◌, ◌-◌, ◌++◌, List, ℕ, Vec, length, true, refl, ap, ◌∙◌, arith}
use Rattle.std.proofs.lemmas.Result.{on_ok_weaker, on_err_weaker}
use Rattle.std.specs.declared.alloc.Global.{Global}
use Rattle.journal_pages.specs.Record.{Record}
use Rattle.journal_pages.specs.Seen.{record_of}
use Rattle.journal_days.specs.Cut.{last_has_room, record_text, texts}
use Rattle.journal_days.proofs.Cutting.{last-set, set-same}
use Rattle.journal_days.proofs.Leading.{counted}
use Rattle.journal_days.proofs.pages.append_last.Goals as goal

pub returns-clause-ok : goal.returns-clause-ok
returns-clause-ok c =
    let pages : List (Vec ℕ Global) = c.args.pages.now.items in
    let front : List ℕ = c.args.front.now in
    let back : List ℕ = c.args.back.now in
    let r : Record = record_of c.args.head.now (front ++ back) in
    let room : last_has_room (texts pages) (length (record_text r)) ≡ true =
    ap (last_has_room (texts pages)) (counted r front back refl) ∙ c.requires.room in
    on_ok_weaker c.append_text.result
    (λ e. last-set pages (c.len-last.result - 1) c.index_mut.result.now c.append_text.new.page (record_text r)
    (omega (arith, c.requires.some, c.len-last.ensures)) c.index_mut.ensures.value e room)
    c.append_text.ensures.ok

pub returns-clause-err : goal.returns-clause-err
returns-clause-err c =
    let pages : List (Vec ℕ Global) = c.args.pages.now.items in
    on_err_weaker c.append_text.result (λ e. set-same pages
    (c.len-last.result - 1) c.index_mut.result.now c.append_text.new.page c.index_mut.ensures.value e)
    c.append_text.ensures.err
