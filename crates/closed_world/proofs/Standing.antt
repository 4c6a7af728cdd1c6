-- What a core that stands after a history says of it.
use Rattle.order_core.specs.State.{IsAfterTurns, core_of}
use Rattle.order_machine.specs.Runs.{IsTableRun}
use Rattle.gate_law.specs.Settings.{Settings, terms}
use Rattle.gate_law.specs.Events.{History}
use Rattle.gate_law.specs.After.{order_turns}
use Rattle.gate_law.specs.Holds.{Holds}
use Rattle.gate_core.specs.Core.{CoreState, IsAfter}

-- all that is promised holds of it
pub core-holds : (s : Settings) (h : History) (c : CoreState) → IsAfter s h c → Holds s h
unfolding IsAfter
core-holds s h c after = after.holds

-- the order level's turns leave the core's table
pub table-run : (s : Settings) (h : History) (c : CoreState) → IsAfter s h c → IsTableRun (terms s) (order_turns s h)
unfolding IsAfter IsAfterTurns
table-run s h c after = ((core_of c.now.parts.orders).table, after.parts.orders.0)
