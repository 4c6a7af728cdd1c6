use Rattle.std.proofs.Common.{◌≡◌, List, length}
use Rattle.order_core.specs.History.{OrderHistory, Terms}
use Rattle.order_core.specs.State.{IsAfterTurns}
use Rattle.order_core.specs.order_machine.Runs.{NumbersLeft}
use Rattle.gate_core.specs.Board.{AreRowsOf}
use Rattle.gate_core.proofs.rows.client_rows.Given as goal

-- those of the clients so far
abbrev pub invariant-loop-line : goal.invariant-loop-line
invariant-loop-line g l = record {
  count : length l.rows.items ≡ l.line-index;
  rows : (terms : List Terms) (before : OrderHistory) → NumbersLeft before → IsAfterTurns terms before l.orders
      → AreRowsOf before l.lines l.rows.items;
}
