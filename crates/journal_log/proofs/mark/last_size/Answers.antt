use Rattle.std.proofs.Common.{◌≡◌, ◌+◌, ◌-◌, ◌≤◌, List, ℕ, Vec, length, sym, ap, ◌∙◌, arith}
use Rattle.std.specs.declared.alloc.Global.{Global}
use Rattle.journal_days.proofs.Cutting.{last-sized, some-pages}
use Rattle.journal_log.proofs.mark.last_size.Goals as goal

pub returns-in-Some : goal.returns-in-Some
returns-in-Some c =
    let pages : List (Vec ℕ Global) = c.args.pages.now in
    let some : 1 ≤ length pages = some-pages pages c.in-Some.last.now (length pages - 1) c.in-Some.ensures.value in
    let last : (length pages - 1) + 1 ≡ length pages = omega (arith, some) in
    ap length c.as_slice.ensures.value ∙ sym (last-sized pages c.in-Some.last.now
    (length pages - 1) last c.in-Some.ensures.value)
