use Rattle.std.proofs.Common.{◌≡◌, ◌≤◌, false, ℕ, length, ap, sym, subst, ◌∙◌, arith}
use Rattle.std.proofs.lemmas.Bool.Decides.{nat_tests}
use Rattle.std.specs.Prelude.{◌==◌}
use Rattle.journal_days.specs.Cut.{texts}
use Rattle.journal_days.specs.Counted.{IsCounted}
use Rattle.journal_days.proofs.Counting.{dropped}
use Rattle.journal_days.proofs.pages.DayPages.drop_first.Goals as goal

not-none : (n : ℕ) → (n == 0) ≡ false → 1 ≤ n
not-none n e = grind (arith, nat_tests)

pub invariant_of-self-else-is_empty-2 : goal.invariant_of-self-else-is_empty-2
invariant_of-self-else-is_empty-2 c = λ n e.
    let some = not-none _ (sym c.is_empty-2.ensures ∙ c.if-is_empty-2.false) in
    let left = ap length c.remove.ensures.items in
    subst (λ ps. IsCounted n (texts ps)) (sym c.remove.ensures.items)
    (dropped n c.self.inside.pages.items (omega (arith, some, left, c.remove.new.self.ok)) (c.self.invariant n e))
