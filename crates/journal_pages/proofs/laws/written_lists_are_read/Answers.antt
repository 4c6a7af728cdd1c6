use Rattle.journal_pages.proofs.Listed.{written-listed}
use Rattle.journal_pages.proofs.laws.written_lists_are_read.Goals as goal

pub returns : goal.returns
returns c = written-listed
