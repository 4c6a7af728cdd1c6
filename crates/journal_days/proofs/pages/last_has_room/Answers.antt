use Rattle.std.proofs.Common.{◌≡◌, ◌+◌, ◌-◌, ◌≤◌, List, ℕ, Vec, length, sym, ap, ◌∙◌, arith}
use Rattle.std.specs.declared.alloc.Global.{Global}
use Rattle.journal_days.specs.Cut.{has_room}
use Rattle.journal_days.proofs.Cutting.{last-room, some-pages}
use Rattle.journal_days.proofs.pages.last_has_room.Goals as goal

pub returns-in-Some : goal.returns-in-Some
returns-in-Some c =
    let pages : List (Vec ℕ Global) = c.args.pages.now in
    let some : 1 ≤ length pages = some-pages pages c.in-Some.last.now (length pages - 1) c.in-Some.ensures.value in
    let last : (length pages - 1) + 1 ≡ length pages = omega (arith, some) in
    c.has_room.ensures ∙ ap (λ (l : List ℕ). has_room l c.args.size) c.as_slice.ensures.value
    ∙ sym (last-room pages c.in-Some.last.now c.args.size (length pages - 1) last c.in-Some.ensures.value)
