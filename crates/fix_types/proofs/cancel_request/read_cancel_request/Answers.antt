use Rattle.fix_types.specs.Requests.{cancel_required, cancel_rows}
use Rattle.fix_values.proofs.Tables.{passed}
use Rattle.fix_types.proofs.cancel_request.read_cancel_request.Goals as goal

pub id_at-requires : goal.id_at-requires
id_at-requires c = let p = passed cancel_required cancel_rows c.args.fields.now c.requires in
    record { there = p.0.0; format = p.1.0 }

pub id_at-requires-2 : goal.id_at-requires-2
id_at-requires-2 c = let p = passed cancel_required cancel_rows c.args.fields.now c.requires in
    record { there = p.0.1.0; format = p.1.1.0 }
