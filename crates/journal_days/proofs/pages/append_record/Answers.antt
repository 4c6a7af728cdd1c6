use Rattle.std.proofs.Common.{◌≡◌, ◌+◌, false, List, ℕ, ◌++◌, Vec, length, refl, sym, ap, ◌∙◌}
use Rattle.std.proofs.lemmas.Result.{on_ok_weaker}
use Rattle.std.specs.declared.alloc.Global.{Global}
use Rattle.journal_pages.specs.Record.{Record}
use Rattle.journal_pages.specs.Seen.{record_of}
use Rattle.journal_days.specs.Cut.{last_has_room, record_text, texts}
use Rattle.journal_days.proofs.Cutting.{no-room, room-some}
use Rattle.journal_days.proofs.Leading.{counted}
use Rattle.journal_days.proofs.pages.append_record.Goals as goal

pub returns-then-not-last_has_room-clause-ok : goal.returns-then-not-last_has_room-clause-ok
returns-then-not-last_has_room-clause-ok c =
    let pages : List (Vec ℕ Global) = c.args.pages.now.items in
    let front : List ℕ = c.args.front.now in
    let back : List ℕ = c.args.back.now in
    let r : Record = record_of c.args.head.now (front ++ back) in
    let none : last_has_room (texts pages) (length (record_text r)) ≡ false =
    ap (last_has_room (texts pages)) (counted r front back refl)
    ∙ ap (λ (ps : List (Vec ℕ Global)). last_has_room (texts ps) (23 + length front + length back))
    (sym c.as_slice.ensures.value)
    ∙ sym c.last_has_room.ensures ∙ c.if-not-last_has_room.true in
    on_ok_weaker c.begin_page.result (λ e. e ∙ sym (no-room (texts pages) (record_text r) none)) c.begin_page.ensures.ok

pub append_last-requires-clause-some : goal.append_last-requires-clause-some
append_last-requires-clause-some c =
    let pages : List (Vec ℕ Global) = c.args.pages.now.items in
    room-some pages (23 + length c.args.front.now + length c.args.back.now)
    (ap (λ (ps : List (Vec ℕ Global)). last_has_room (texts ps) (23 + length c.args.front.now + length c.args.back.now))
    (sym c.as_slice.ensures.value) ∙ sym c.last_has_room.ensures ∙ c.if-not-last_has_room.false)
