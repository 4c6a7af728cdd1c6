use Rattle.std.proofs.Common.{ap, ◌∙◌}
use Rattle.fix_types.specs.BusinessReject.{business_reject_of}
use Rattle.fix_types.proofs.WrittenBusinessReject.{business_reject_passes, business_reject_of-fields}
use Rattle.fix_types.proofs.business_reject.BusinessRejectTextWireFieldsTextFault.get.Goals as goal

pub returns-in-Some-clause-read : goal.returns-in-Some-clause-read
returns-in-Some-clause-read c = λ m is e. absurd
    (business_reject_passes c.args.fields.now c.in-Some.refusal c.in-Some.ensures m is e)

pub returns-in_ok-read_business_reject-in-None-clause-read : goal.returns-in_ok-read_business_reject-in-None-clause-read
returns-in_ok-read_business_reject-in-None-clause-read c = λ m is e. c.in_ok-read_business_reject-in-None.ensures.said
    ∙ ap business_reject_of e ∙ business_reject_of-fields m is
