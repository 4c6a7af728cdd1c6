use Rattle.std.proofs.Common.{◌≡◌, ◌+◌, ◌-◌, ◌≤◌, List, ℕ, Vec, length, sym, ap, ◌∙◌, arith}
use Rattle.std.specs.declared.alloc.Global.{Global}
use Rattle.journal_days.specs.Cut.{number_behind}
use Rattle.journal_days.proofs.Cutting.{next-last, some-pages}
use Rattle.journal_days.proofs.numbers.next_number.Goals as goal

pub returns-in-Some : goal.returns-in-Some
returns-in-Some c =
    let pages : List (Vec ℕ Global) = c.args.pages.now in
    let some : 1 ≤ length pages = some-pages pages c.in-Some.last.now (length pages - 1) c.in-Some.ensures.value in
    let last : (length pages - 1) + 1 ≡ length pages = omega (arith, some) in
    c.number_behind.ensures ∙ ap (λ (l : List ℕ). number_behind l) c.as_slice.ensures.value
    ∙ sym (next-last pages c.in-Some.last.now (length pages - 1) last c.in-Some.ensures.value)
