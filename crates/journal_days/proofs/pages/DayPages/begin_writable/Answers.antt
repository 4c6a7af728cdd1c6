use Rattle.std.proofs.Common.{◌≡◌, ◌+◌, ◌%◌, ◌^◌, ◌++◌, ◌∷◌, [], List, ℕ, Vec, false, length, refl, sym, ap, ◌∙◌}
use Rattle.std.specs.declared.alloc.Global.{Global}
use Rattle.journal_pages.specs.Record.{Record}
use Rattle.journal_pages.specs.Seen.{record_of}
use Rattle.journal_days.specs.Cut.{last_has_room, next_number, page_with, record_text, texts, with_text}
use Rattle.journal_days.proofs.Counting.{begun-behind}
use Rattle.journal_days.proofs.Cutting.{no-room}
use Rattle.journal_days.proofs.Leading.{counted}
use Rattle.journal_days.proofs.pages.DayPages.begin_writable.Goals as goal

-- the last of these pages has no room for the record
full : (r : Record) (pages seen : List (List ℕ)) (front back : List ℕ) → r.payload ≡ front ++ back → pages ≡ seen
    → last_has_room seen (23 + length front + length back) ≡ false
    → last_has_room pages (length (record_text r)) ≡ false
full r pages seen front back is same none =
    ap (λ (ps : List (List ℕ)). last_has_room ps (length (record_text r))) same
    ∙ ap (last_has_room seen) (counted r front back is) ∙ none

-- so it begins a page
begun : (r : Record) (pages seen now : List (List ℕ)) → pages ≡ seen
    → last_has_room pages (length (record_text r)) ≡ false
    → now ≡ pages ++ page_with (next_number pages) (record_text r) ∷ [] → now ≡ with_text seen (record_text r)
begun r pages seen now same none is =
    is ∙ sym (no-room pages (record_text r) none) ∙ ap (λ (ps : List (List ℕ)). with_text ps (record_text r)) same

pub returns-clause-ok : goal.returns-clause-ok
returns-clause-ok c =
    let r : Record = record_of c.args.head.now (c.args.front.now ++ c.args.back.now) in
    begun r (texts c.self.inside.pages.items) c.args.self.now _ c.self.view_is
    (full r (texts c.self.inside.pages.items) c.args.self.now c.args.front.now c.args.back.now refl c.self.view_is
    c.requires.full) c.in_ok-begin_page.ensures.ok

pub invariant_of-self-2 : goal.invariant_of-self-2
invariant_of-self-2 c = λ n e.
    let r : Record = record_of c.args.head.now (c.args.front.now ++ c.args.back.now) in
    let pages : List (List ℕ) = texts c.self.inside.pages.items in
    let none : last_has_room pages (length (record_text r)) ≡ false =
    full r pages c.args.self.now c.args.front.now c.args.back.now refl c.self.view_is c.requires.full in
    begun-behind c.number_of-number.result ((c.number_of-number.result + 1) % 2 ^ 64) n pages _ r
    (c.number_of-number.ensures ∙ ap (λ (ps : List (Vec ℕ Global)). next_number (texts ps)) c.as_slice.ensures.value)
    refl none c.requires.writable (begun r pages pages _ refl none c.in_ok-begin_page.ensures.ok) e
