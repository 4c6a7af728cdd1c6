use Rattle.journal_file.proofs.Inputs.{all-read}
use Rattle.day_export.proofs.Turns.{exported-by}
use Rattle.day_export.proofs.day.export_file.Goals as goal

pub returns-in-Ok-flush-clause-written : goal.returns-in-Ok-flush-clause-written
returns-in-Ok-flush-clause-written g c =
    exported-by _ _ _ _ _ _ c.args.format c.in-Ok.ending c.in_default.ensures c.in-Ok.ensures c.in-Ok-flush.ensures.bytes

pub returns-in-Ok-flush-clause-all_written : goal.returns-in-Ok-flush-clause-all_written
returns-in-Ok-flush-clause-all_written g c = all-read _ _ _
    (exported-by _ _ _ _ _ _ c.args.format c.in-Ok.ending c.in_default.ensures c.in-Ok.ensures
    c.in-Ok-flush.ensures.bytes)
