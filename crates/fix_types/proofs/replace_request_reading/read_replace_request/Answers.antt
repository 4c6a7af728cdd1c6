use Rattle.fix_types.specs.Requests.{replace_required, replace_rows}
use Rattle.fix_values.proofs.Tables.{passed}
use Rattle.fix_types.proofs.replace_request_reading.read_replace_request.Goals as goal

pub id_at-requires : goal.id_at-requires
id_at-requires c = let p = passed replace_required replace_rows c.args.fields.now c.requires in
    record { there = p.0.0; format = p.1.0 }

pub id_at-requires-2 : goal.id_at-requires-2
id_at-requires-2 c = let p = passed replace_required replace_rows c.args.fields.now c.requires in
    record { there = p.0.1.0; format = p.1.1.0 }

pub optional_char_at-requires : goal.optional_char_at-requires
optional_char_at-requires c = let p = passed replace_required replace_rows c.args.fields.now c.requires in p.1.1.1.0

pub char_at-requires : goal.char_at-requires
char_at-requires c = let p = passed replace_required replace_rows c.args.fields.now c.requires in
    record { there = p.0.1.1.1.0; format = p.1.1.1.1.1.0 }

pub optional_char_at-requires-2 : goal.optional_char_at-requires-2
optional_char_at-requires-2 c = let p = passed replace_required replace_rows c.args.fields.now c.requires in
    p.1.1.1.1.1.1.1.0

pub optional_char_at-requires-3 : goal.optional_char_at-requires-3
optional_char_at-requires-3 c = let p = passed replace_required replace_rows c.args.fields.now c.requires in
    p.1.1.1.1.1.1.1.1.0

pub terms_at-requires : goal.terms_at-requires
terms_at-requires c = let p = passed replace_required replace_rows c.args.fields.now c.requires in
    record { there = p.0.1.1.0; quantity = p.1.1.1.1.0; price = p.1.1.1.1.1.1.0; minimum = p.1.1.1.1.1.1.1.1.1.0 }
