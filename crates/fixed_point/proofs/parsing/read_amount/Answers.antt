use Rattle.std.proofs.Common.{◌^◌, ◌∙◌, arith}
use Rattle.std.proofs.lemmas.Result.{err_from_is_err_and}
use Rattle.fixed_point.proofs.Amounts.{amount_by_size}
use Rattle.fixed_point.proofs.parsing.read_amount.Goals as goal

pub returns-in_err-size-clause-value : goal.returns-in_err-size-clause-value
returns-in_err-size-clause-value c =
    let is_err = err_from_is_err_and c.from_residual.result c.from_residual.ensures.1 in
    rw (is_err.1, is_err.2)
    (amount_by_size (10 ^ c.args.places) c.args.least c.args.most c.args.text.now c.sign_of-negative.result.1.now
    c.parts_of.result.0.now c.parts_of.result.1.now c.sign_of-negative.result.0 _
    (omega arith) c.sign_of-negative.ensures.sign c.sign_of-negative.ensures.rest c.parts_of.ensures.whole
    c.parts_of.ensures.behind c.in_err-size.ensures)

pub returns-clause-value : goal.returns-clause-value
returns-clause-value c =
    c.in_range.ensures.value
    ∙ amount_by_size (10 ^ c.args.places) c.args.least c.args.most c.args.text.now c.sign_of-negative.result.1.now
    c.parts_of.result.0.now c.parts_of.result.1.now c.sign_of-negative.result.0 _
    (omega arith) c.sign_of-negative.ensures.sign c.sign_of-negative.ensures.rest c.parts_of.ensures.whole
    c.parts_of.ensures.behind c.in_ok-size.ensures
