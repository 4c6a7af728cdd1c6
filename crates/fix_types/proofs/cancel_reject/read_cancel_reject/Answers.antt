use Rattle.fix_types.specs.CancelReject.{cancel_reject_tags, cancel_reject_formats}
use Rattle.fix_values.proofs.Tables.{passed}
use Rattle.fix_types.proofs.cancel_reject.read_cancel_reject.Goals as goal

pub order_id_in-requires : goal.order_id_in-requires
order_id_in-requires c = let p = passed cancel_reject_tags cancel_reject_formats c.args.fields.now c.requires in
    record { there = p.0.0; format = p.1.0 }

pub id_at-requires : goal.id_at-requires
id_at-requires c = let p = passed cancel_reject_tags cancel_reject_formats c.args.fields.now c.requires in
    record { there = p.0.1.0; format = p.1.1.0 }

pub id_at-requires-2 : goal.id_at-requires-2
id_at-requires-2 c = let p = passed cancel_reject_tags cancel_reject_formats c.args.fields.now c.requires in
    record { there = p.0.1.1.0; format = p.1.1.1.0 }

pub ord_status_at-requires : goal.ord_status_at-requires
ord_status_at-requires c = let p = passed cancel_reject_tags cancel_reject_formats c.args.fields.now c.requires in
    record { there = p.0.1.1.1.0; format = p.1.1.1.1.0 }

pub response_at-requires : goal.response_at-requires
response_at-requires c = let p = passed cancel_reject_tags cancel_reject_formats c.args.fields.now c.requires in
    record { there = p.0.1.1.1.1.0; format = p.1.1.1.1.1.0 }

pub number_in-requires : goal.number_in-requires
number_in-requires c = let p = passed cancel_reject_tags cancel_reject_formats c.args.fields.now c.requires in
    record { there = p.0.1.1.1.1.1.0; format = p.1.1.1.1.1.1.0 }

pub text_at-requires : goal.text_at-requires
text_at-requires c = let p = passed cancel_reject_tags cancel_reject_formats c.args.fields.now c.requires in
    p.0.1.1.1.1.1.1.0
