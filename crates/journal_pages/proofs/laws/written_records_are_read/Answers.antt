use Rattle.journal_pages.proofs.Written.{written-stands}
use Rattle.journal_pages.proofs.laws.written_records_are_read.Goals as goal

pub returns : goal.returns
returns c = written-stands
