use Rattle.journal_log.proofs.Kept.{told-more}
use Rattle.journal_log.proofs.log.DayLog.commit.Goals as goal

pub returns-clause-told : goal.returns-clause-told
returns-clause-told g c =
    told-more g.F.LogFile.seen g.F.LogFile.may_leave c.add.result c.args.page.now c.args.self.now.file
    c.add.new.self.file c.add.ensures.added c.add.ensures.durable
