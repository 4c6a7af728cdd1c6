use Rattle.std.proofs.Common.{sym, ap, ◌∙◌}
use Rattle.fixed_point.specs.Worth.{counted}
use Rattle.fixed_point.proofs.Worths.{worth_by_parts, no_float, too_fine, worth_exact}
use Rattle.fixed_point.proofs.worth.parse_worth.Goals as goal

pub returns-then-not-are_of_float : goal.returns-then-not-are_of_float
returns-then-not-are_of_float c =
    let parts = worth_by_parts c.args.text.now c.sign_of-negative.result.1.now c.parts_of.result.0.now
    c.parts_of.result.1.now c.sign_of-negative.result.0 c.sign_of-negative.ensures.sign
    c.sign_of-negative.ensures.rest c.parts_of.ensures.whole c.parts_of.ensures.behind in
    no_float c.sign_of-negative.result.0 c.parts_of.result.0.now c.parts_of.result.1.now
    (sym c.if-not-are_of_float.ensures) ∙ sym (ap counted parts)

pub returns-then-not-are_zeros : goal.returns-then-not-are_zeros
returns-then-not-are_zeros c =
    let parts = worth_by_parts c.args.text.now c.sign_of-negative.result.1.now c.parts_of.result.0.now
    c.parts_of.result.1.now c.sign_of-negative.result.0 c.sign_of-negative.ensures.sign
    c.sign_of-negative.ensures.rest c.parts_of.ensures.whole c.parts_of.ensures.behind in
    too_fine c.sign_of-negative.result.0 c.parts_of.result.0.now c.parts_of.result.1.now c.split_at.result.0.now
    c.split_at.result.1.now c.min.result (sym c.if-not-are_of_float.ensures) c.min.ensures c.split_at.ensures.front
    c.split_at.ensures.back (sym c.if-not-are_zeros.ensures)
    ∙ sym (ap counted parts)

pub returns : goal.returns
returns c =
    let parts = worth_by_parts c.args.text.now c.sign_of-negative.result.1.now c.parts_of.result.0.now
    c.parts_of.result.1.now c.sign_of-negative.result.0 c.sign_of-negative.ensures.sign
    c.sign_of-negative.ensures.rest c.parts_of.ensures.whole c.parts_of.ensures.behind in
    let exact = worth_exact c.sign_of-negative.result.0 c.parts_of.result.0.now c.parts_of.result.1.now
    c.split_at.result.0.now c.split_at.result.1.now c.min.result
    (sym c.if-not-are_of_float.ensures) c.min.ensures c.split_at.ensures.front c.split_at.ensures.back
    (sym c.if-not-are_zeros.ensures) in
    c.signed.ensures _ c.units_of.ensures ∙ sym (ap counted (parts ∙ exact))
