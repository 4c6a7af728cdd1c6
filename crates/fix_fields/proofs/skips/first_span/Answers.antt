use Rattle.std.proofs.Common.{ℕ, ap, ◌∙◌}
use Rattle.std.specs.Prelude.{slice_index}
use Rattle.fix_fields.proofs.Skipping.{searched}
use Rattle.fix_fields.proofs.skips.first_span.Goals as goal

pub returns : goal.returns
returns c =
    let remainder = c.remainder_of.ensures in
    c.first_among.ensures
    ∙ searched c.args.tag c.args.spans.now c.from-behind.result _
    (c.from-behind.ensures ∙ ap (λ (n : ℕ). slice_index c.args.skips.now n) remainder.value)
    (c.requires _ (rw (← remainder.value) remainder.within))
