use Rattle.journal_days.proofs.Leading.{day-listed, day-more}
use Rattle.journal_days.proofs.laws.days_go_on.Goals as goal

pub returns-clause-day : goal.returns-clause-day
returns-clause-day c = day-more

pub returns-clause-records : goal.returns-clause-records
returns-clause-records c = day-listed
