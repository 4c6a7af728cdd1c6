use Rattle.std.proofs.Common.{◌/◌, ◌%◌, refl, arith, decimal}
use Rattle.fixed_point.specs.Price.{fraction_text, price_text}
use Rattle.fix_values.proofs.Inside.{inside-append, inside-decimal, inside-fraction_text}
use Rattle.fix_values.proofs.field_value.FieldValue.price.Goals as goal

pub invariant_of-result : goal.invariant_of-result
invariant_of-result c =
    inside-append (decimal (c.args.units / 10_000)) (fraction_text (c.args.units % 10_000))
    (inside-decimal (c.args.units / 10_000) (omega arith)) (inside-fraction_text (c.args.units % 10_000))

pub returns : goal.returns
unfolding price_text
returns c = refl
