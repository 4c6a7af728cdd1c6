use Rattle.journal_log.proofs.Kept.{fewer-follow}
use Rattle.journal_log.proofs.log.put.Goals as goal

pub returns-in_err-sync-clause-crash : goal.returns-in_err-sync-clause-crash
returns-in_err-sync-clause-crash g c =
    fewer-follow (g.F.LogFile.may_leave c.args.file.now) (g.F.LogFile.may_leave c.append.new.self)
    (g.F.LogFile.may_leave c.sync.new.self) c.append.ensures.crash c.sync.ensures.crash

pub returns-clause-crash : goal.returns-clause-crash
returns-clause-crash g c =
    fewer-follow (g.F.LogFile.may_leave c.args.file.now) (g.F.LogFile.may_leave c.append.new.self)
    (g.F.LogFile.may_leave c.sync.new.self) c.append.ensures.crash c.sync.ensures.crash
