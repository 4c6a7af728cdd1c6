use Rattle.std.proofs.Common.{sym, subst, ◌∙◌}
use Rattle.order_core.specs.State.{IsAfterTurns}
use Rattle.order_core.proofs.Executing.{value-of}
use Rattle.order_core.proofs.Standing.{table-left}
use Rattle.order_core.proofs.order_core.OrderCore.executed_value.Goals as goal

pub returns : goal.returns
returns g c terms before short is =
    c.executed_value.ensures
    ∙ value-of terms before _ short (table-left terms before _
    (subst (IsAfterTurns terms before) (sym c.self.view_is) is)) c.args.client
