-- A token leads in the table to the order that it leads to in the law, and as many orders are open.
use Rattle.std.proofs.Common.{◌≡◌, ℕ, ◌<◌, ◌^◌, List, length, arith}
use Rattle.std.specs.Prelude.{option_map}
use Rattle.order_law.specs.History.{OrderHistory, Terms, accepted, issued}
use Rattle.order_law.specs.Lawful.{order_of_token}
use Rattle.order_law.specs.Verdicts.{open_orders}
use Rattle.order_machine.specs.OrderRecord.{OrderRecord}
use Rattle.order_machine.specs.Table.{TableState, open_count, record_by_token}
use Rattle.order_machine.specs.Runs.{TurnsLeave}
use Rattle.order_machine.proofs.Linked.{open-counted, token-leads}
use Rattle.order_machine.proofs.Running.{Leaves-Holding}

-- in every run
pub token-of : (terms : List Terms) (before : OrderHistory) (s : TableState) → length before < 2 ^ 58
    → TurnsLeave terms before s
    → (port : ℕ) (token : List ℕ) → option_map (λ (o : OrderRecord). o.new) (record_by_token s port token)
    ≡ order_of_token terms port (accepted terms before) token
token-of terms before s short leaves port token =
    token-leads terms before s (Leaves-Holding terms before s (omega arith) leaves).table port token

pub open-of : (terms : List Terms) (before : OrderHistory) (s : TableState) → length before < 2 ^ 58
    → TurnsLeave terms before s
    → (client : ℕ) → open_count s.orders client ≡ open_orders (issued client before)
open-of terms before s short leaves client =
    open-counted terms before s (Leaves-Holding terms before s (omega arith) leaves).table client
