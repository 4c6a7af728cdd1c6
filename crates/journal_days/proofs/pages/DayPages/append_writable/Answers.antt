use Rattle.std.proofs.Common.{◌+◌, ◌++◌, List, ℕ, Vec, length, sym, ap, ◌∙◌}
use Rattle.std.specs.declared.alloc.Global.{Global}
use Rattle.journal_pages.specs.Record.{Record}
use Rattle.journal_pages.specs.Seen.{record_of}
use Rattle.journal_days.specs.Cut.{last_has_room, texts}
use Rattle.journal_days.proofs.Counting.{known-behind}
use Rattle.journal_days.proofs.Cutting.{room-some}
use Rattle.journal_days.proofs.pages.DayPages.append_writable.Goals as goal

pub append_last-requires-clause-some : goal.append_last-requires-clause-some
append_last-requires-clause-some c =
    let pages : List (Vec ℕ Global) = c.self.inside.pages.items in
    room-some pages (23 + length c.args.front.now + length c.args.back.now)
    (ap (λ (ps : List (Vec ℕ Global)). last_has_room (texts ps) (23 + length c.args.front.now + length c.args.back.now))
    (sym c.as_slice.ensures.value) ∙ sym c.last_has_room.ensures ∙ c.if-not-last_has_room.false)

pub invariant_of-self-2 : goal.invariant_of-self-2
invariant_of-self-2 c = λ n e.
    let r : Record = record_of c.args.head.now (c.args.front.now ++ c.args.back.now) in
    known-behind c.self.inside.next c.number_after-self-inside.result n (texts c.self.inside.pages.items) _ r
    c.number_after-self-inside.ensures (λ m is. (c.self.invariant m is).next)
    (λ m is room. (c.self.invariant m is).last) c.requires.writable c.in_ok-append_last.ensures.ok e
