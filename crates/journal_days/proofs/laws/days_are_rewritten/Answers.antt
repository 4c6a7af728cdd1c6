use Rattle.journal_days.proofs.Leading.{day-rewritten, records-rewritten}
use Rattle.journal_days.proofs.laws.days_are_rewritten.Goals as goal

pub returns-clause-day : goal.returns-clause-day
returns-clause-day c = λ pages day good. day-rewritten pages good day

pub returns-clause-records : goal.returns-clause-records
returns-clause-records c = λ pages day good. records-rewritten pages good day
