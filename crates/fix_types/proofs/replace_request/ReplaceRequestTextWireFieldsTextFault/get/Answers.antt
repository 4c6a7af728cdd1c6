use Rattle.fix_types.proofs.WrittenReplaceRequest.{replace_request_passes}
use Rattle.fix_types.proofs.replace_request.ReplaceRequestTextWireFieldsTextFault.get.Goals as goal

pub returns-in-Some-clause-read : goal.returns-in-Some-clause-read
returns-in-Some-clause-read c = λ m is e. absurd
    (replace_request_passes c.args.fields.now c.in-Some.refusal c.in-Some.ensures m is e)
