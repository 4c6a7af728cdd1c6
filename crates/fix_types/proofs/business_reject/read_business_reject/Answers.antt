use Rattle.fix_types.specs.BusinessReject.{business_reject_tags, business_reject_formats}
use Rattle.fix_values.proofs.Tables.{passed}
use Rattle.fix_types.proofs.business_reject.read_business_reject.Goals as goal

pub number_in-requires : goal.number_in-requires
number_in-requires c = let p = passed business_reject_tags business_reject_formats c.args.fields.now c.requires in
    record { there = p.0.0; format = p.1.0 }

pub text_at-requires : goal.text_at-requires
text_at-requires c = let p = passed business_reject_tags business_reject_formats c.args.fields.now c.requires in p.0.1.0

pub number_in-requires-2 : goal.number_in-requires-2
number_in-requires-2 c = let p = passed business_reject_tags business_reject_formats c.args.fields.now c.requires in
    record { there = p.0.1.1.0; format = p.1.1.0 }

pub text_at-requires-2 : goal.text_at-requires-2
text_at-requires-2 c = let p = passed business_reject_tags business_reject_formats c.args.fields.now c.requires in
    p.0.1.1.1.0
