use Rattle.std.proofs.Common.{ap}
use Rattle.journal_log.specs.State.{LogState}
use Rattle.journal_log.proofs.Kept.{same-file}
use Rattle.journal_log.proofs.log.DayLog.add_pieces.Goals as goal

pub returns-in_err-append_head-clause-crash : goal.returns-in_err-append_head-clause-crash
returns-in_err-append_head-clause-crash g c =
    same-file g.F.LogFile.may_leave c.self.inside.file c.args.self.now.file
    (ap (λ (z : LogState g.row.F.Denot). z.file) c.self.view_is)
