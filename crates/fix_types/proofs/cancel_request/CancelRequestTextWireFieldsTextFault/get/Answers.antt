use Rattle.fix_types.proofs.WrittenCancelRequest.{cancel_request_passes}
use Rattle.fix_types.proofs.cancel_request.CancelRequestTextWireFieldsTextFault.get.Goals as goal

pub returns-in-Some-clause-read : goal.returns-in-Some-clause-read
returns-in-Some-clause-read c = λ m is e. absurd
    (cancel_request_passes c.args.fields.now c.in-Some.refusal c.in-Some.ensures m is e)
