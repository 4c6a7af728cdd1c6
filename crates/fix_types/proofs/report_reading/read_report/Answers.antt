use Rattle.fix_types.specs.Report.{report_tags, report_formats}
use Rattle.fix_values.proofs.Tables.{passed}
use Rattle.fix_types.proofs.report_reading.read_report.Goals as goal

pub number_in-requires : goal.number_in-requires
number_in-requires c = let p = passed report_tags report_formats c.args.fields.now c.requires in
    record { there = p.0.0; format = p.1.0 }

pub id_at-requires : goal.id_at-requires
id_at-requires c = let p = passed report_tags report_formats c.args.fields.now c.requires in
    record { there = p.0.1.0; format = p.1.1.0 }

pub optional_id_at-requires : goal.optional_id_at-requires
optional_id_at-requires c = let p = passed report_tags report_formats c.args.fields.now c.requires in p.1.1.1.0

pub number_in-requires-2 : goal.number_in-requires-2
number_in-requires-2 c = let p = passed report_tags report_formats c.args.fields.now c.requires in
    record { there = p.0.1.1.0; format = p.1.1.1.1.0 }

pub optional_number_in-requires : goal.optional_number_in-requires
optional_number_in-requires c = let p = passed report_tags report_formats c.args.fields.now c.requires in p.1.1.1.1.1.0

pub exec_type_at-requires : goal.exec_type_at-requires
exec_type_at-requires c = let p = passed report_tags report_formats c.args.fields.now c.requires in
    record { there = p.0.1.1.1.0; format = p.1.1.1.1.1.1.0 }

pub ord_status_at-requires : goal.ord_status_at-requires
ord_status_at-requires c = let p = passed report_tags report_formats c.args.fields.now c.requires in
    record { there = p.0.1.1.1.1.0; format = p.1.1.1.1.1.1.1.0 }

pub optional_number_in-requires-2 : goal.optional_number_in-requires-2
optional_number_in-requires-2 c = let p = passed report_tags report_formats c.args.fields.now c.requires in
    p.1.1.1.1.1.1.1.1.0

pub optional_number_in-requires-3 : goal.optional_number_in-requires-3
optional_number_in-requires-3 c = let p = passed report_tags report_formats c.args.fields.now c.requires in
    p.1.1.1.1.1.1.1.1.1.0

pub text_at-requires : goal.text_at-requires
text_at-requires c = let p = passed report_tags report_formats c.args.fields.now c.requires in p.0.1.1.1.1.1.0

pub char_at-requires : goal.char_at-requires
char_at-requires c = let p = passed report_tags report_formats c.args.fields.now c.requires in
    record { there = p.0.1.1.1.1.1.1.0; format = p.1.1.1.1.1.1.1.1.1.1.0 }

pub optional_number_in-requires-4 : goal.optional_number_in-requires-4
optional_number_in-requires-4 c = let p = passed report_tags report_formats c.args.fields.now c.requires in
    p.1.1.1.1.1.1.1.1.1.1.1.0

pub number_in-requires-3 : goal.number_in-requires-3
number_in-requires-3 c = let p = passed report_tags report_formats c.args.fields.now c.requires in
    record { there = p.0.1.1.1.1.1.1.1.1.0; format = p.1.1.1.1.1.1.1.1.1.1.1.1.0 }

pub number_in-requires-4 : goal.number_in-requires-4
number_in-requires-4 c = let p = passed report_tags report_formats c.args.fields.now c.requires in
    record { there = p.0.1.1.1.1.1.1.1.1.1.0; format = p.1.1.1.1.1.1.1.1.1.1.1.1.1.0 }

pub report_texts_at-requires : goal.report_texts_at-requires
report_texts_at-requires c = let p = passed report_tags report_formats c.args.fields.now c.requires in
    record { quantity = p.0.1.1.1.1.1.1.1.0; average = p.0.1.1.1.1.1.1.1.1.1.1.0 }
