use Rattle.std.proofs.Common.{ap, ◌∙◌, List, ℕ, arith}
use Rattle.std.specs.List.{list_all}
use Rattle.fix_framing.specs.fix_fields.Field.{is_inside}
use Rattle.fix_framing.proofs.fix_fields.Decimals.{inside-decimal}
use Rattle.session_writing.proofs.bodies.push_number.Goals as goal

pub push-requires-clause-value : goal.push-requires-clause-value
push-requires-clause-value c = ap (λ (l : List ℕ). list_all is_inside l)
    (c.as_bytes.ensures.value ∙ c.format.ensures.text) ∙ inside-decimal c.args.number (omega arith)
