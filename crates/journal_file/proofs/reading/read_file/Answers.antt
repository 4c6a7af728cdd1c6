use Rattle.std.proofs.Common.{arith}
use Rattle.journal_file.proofs.Meaning.{reads-in-front, reads-nothing-else}
use Rattle.journal_file.proofs.reading.read_file.Goals as goal

pub returns-clause-in_front : goal.returns-clause-in_front
returns-clause-in_front c = reads-in-front c.args.file.now c.in_ok-read.read.day c.in_ok-read.read.ending
    (omega arith) c.in_ok-read.ensures

pub returns-clause-nothing_else : goal.returns-clause-nothing_else
returns-clause-nothing_else c = reads-nothing-else c.args.file.now c.in_ok-read.read.day c.in_ok-read.read.ending
    c.in_ok-read.ensures
