use Rattle.std.proofs.Common.{sym, ◌∙◌}
use Rattle.fix_session.proofs.Logons.{logon-interval}
use Rattle.fix_session.proofs.judge.judge_logon.Goals as goal

pub interval_of-interval-requires : goal.interval_of-interval-requires
interval_of-interval-requires c = logon-interval c.args.session.now.session c.args.m.now
    (sym c.is_logon.ensures ∙ c.if-not-is_logon.false)
