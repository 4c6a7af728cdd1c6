-- Which turns a core is after is seen of its table and of the messages that it keeps: what was settled has no part in
-- it.
use Rattle.std.proofs.Common.{◌≡◌, List, subst}
use Rattle.outstanding.specs.order_law.History.{OrderHistory, Terms}
use Rattle.order_machine.specs.Runs.{TurnsLeave}
use Rattle.outstanding.specs.KeptInTurns.{KeepsOutstanding}
use Rattle.order_core.specs.State.{OrderCoreState, IsAfterTurns}

pub after-by_parts : (terms : List Terms) (h : OrderHistory) (c d : OrderCoreState) → c.table ≡ d.table
    → c.kept ≡ d.kept → IsAfterTurns terms h c → IsAfterTurns terms h d
unfolding IsAfterTurns
after-by_parts terms h c d same_table same_kept after =
    (subst (TurnsLeave terms h) same_table after.0, subst (KeepsOutstanding terms h) same_kept after.1)

-- the turns leave its table
pub table-left : (terms : List Terms) (h : OrderHistory) (c : OrderCoreState) → IsAfterTurns terms h c
    → TurnsLeave terms h c.table
unfolding IsAfterTurns
table-left terms h c is = is.0
