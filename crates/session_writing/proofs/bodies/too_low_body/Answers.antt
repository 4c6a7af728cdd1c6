use Rattle.std.proofs.Common.{List, ℕ, sym, subst, arith, ◌∙◌}
use Rattle.fix_framing.specs.fix_fields.Field.{IsValue}
use Rattle.session_writing.proofs.Digits.{too-low-inside}
use Rattle.session_writing.proofs.bodies.too_low_body.Goals as goal

pub text_body-requires : goal.text_body-requires
text_body-requires c =
    subst (λ (l : List ℕ). IsValue l) (sym (c.as_slice.ensures.value ∙ c.in_ok-why.ensures))
    (too-low-inside c.args.expected c.args.received (omega arith) (omega arith))
