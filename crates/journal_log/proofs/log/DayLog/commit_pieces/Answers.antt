use Rattle.journal_log.specs.Pieces.{page_of}
use Rattle.journal_log.proofs.Kept.{told-more}
use Rattle.journal_log.proofs.log.DayLog.commit_pieces.Goals as goal

pub returns-clause-told : goal.returns-clause-told
returns-clause-told g c =
    told-more g.F.LogFile.seen g.F.LogFile.may_leave c.add_pieces.result (page_of c.args.before c.args.pieces)
    c.args.self.now.file c.add_pieces.new.self.file c.add_pieces.ensures.added c.add_pieces.ensures.durable
