use Rattle.journal_days.proofs.Leading.{page-numbered}
use Rattle.journal_days.proofs.laws.numbers_count_records.Goals as goal

pub returns : goal.returns
returns c = page-numbered
