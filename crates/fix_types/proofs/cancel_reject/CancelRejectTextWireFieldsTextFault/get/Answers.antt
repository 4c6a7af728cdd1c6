use Rattle.std.proofs.Common.{ap, ◌∙◌}
use Rattle.fix_types.specs.CancelReject.{cancel_reject_in}
use Rattle.fix_types.proofs.WrittenCancelReject.{cancel_reject_passes, cancel_reject_of-fields}
use Rattle.fix_types.proofs.cancel_reject.CancelRejectTextWireFieldsTextFault.get.Goals as goal

pub returns-in-Some-clause-read : goal.returns-in-Some-clause-read
returns-in-Some-clause-read c = λ m is e. absurd
    (cancel_reject_passes c.args.fields.now c.in-Some.refusal c.in-Some.ensures m is e)

pub returns-in_ok-read_cancel_reject-in-None-clause-read : goal.returns-in_ok-read_cancel_reject-in-None-clause-read
returns-in_ok-read_cancel_reject-in-None-clause-read c = λ m is e. c.in_ok-read_cancel_reject-in-None.ensures.said
    ∙ ap cancel_reject_in e ∙ cancel_reject_of-fields m is
