use Rattle.std.proofs.Common.{◌≡◌, ◌≢◌, ℕ, false, ◌==◌, length, sym, ◌∙◌, arith}
use Rattle.std.proofs.lemmas.Bool.Decides.{nat_tests}
use Rattle.fix_fields.proofs.Ending.{ended_by_back, fields_end}
use Rattle.fix_fields.proofs.soh.is_ended.Goals as goal

some : (size : ℕ) → (size == 0) ≡ false → size ≢ 0
some size h e = grind (arith, nat_tests)

pub returns-else-is_empty-clause-ended : goal.returns-else-is_empty-clause-ended
returns-else-is_empty-clause-ended c = λ yes. ended_by_back c.args.text.now (sym c.ends_with.ensures.value ∙ yes)

pub returns-else-is_empty-clause-fields : goal.returns-else-is_empty-clause-fields
returns-else-is_empty-clause-fields c = λ fields e.
    c.ends_with.ensures.value ∙ fields_end c.args.text.now fields e
    (some (length c.args.text.now) (sym c.is_empty.ensures ∙ c.if-is_empty.false))
