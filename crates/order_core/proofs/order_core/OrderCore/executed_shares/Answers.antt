use Rattle.std.proofs.Common.{sym, subst, ◌∙◌}
use Rattle.order_core.specs.State.{IsAfterTurns}
use Rattle.order_core.proofs.Executing.{executed-of}
use Rattle.order_core.proofs.Standing.{table-left}
use Rattle.order_core.proofs.order_core.OrderCore.executed_shares.Goals as goal

pub returns : goal.returns
returns g c terms before short is =
    c.executed_shares.ensures
    ∙ executed-of terms before _ short (table-left terms before _
    (subst (IsAfterTurns terms before) (sym c.self.view_is) is)) c.args.client
