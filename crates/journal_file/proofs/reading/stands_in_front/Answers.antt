use Rattle.std.proofs.Common.{arith}
use Rattle.journal_file.proofs.Standing.{whole-stands}
use Rattle.journal_file.proofs.reading.stands_in_front.Goals as goal

pub returns-in-Ok : goal.returns-in-Ok
returns-in-Ok c = whole-stands c.args.bytes.now c.in-Ok.field-0.0.now c.in-Ok.field-0.1.now c.in-Ok.ensures
    (omega arith)
