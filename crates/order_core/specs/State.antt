-- What callers see of the core: how many clients and numbers there are, and which turns it is after.
use Rattle.std.specs.Prelude.{ℕ, List}
use Rattle.outstanding.specs.order_law.History.{OrderHistory, Terms}
use Rattle.order_machine.specs.Runs.{TurnsLeave}
use Rattle.order_machine.specs.Table.{TableState}
use Rattle.order_core.specs.LedgerState as ledger
use Rattle.outstanding.specs.Kept.{KeptMessage}
use Rattle.outstanding.specs.KeptInTurns.{KeepsOutstanding}

-- the table of orders, and the messages that ports were asked and haven't answered
pub record CoreParts : Type 0 where
  pub table : TableState
  pub kept : List KeptMessage

-- both now, and as they were settled
pub record OrderCoreState : Type 0 where
  pub table : TableState
  pub kept : List KeptMessage
  pub settled : CoreParts

-- the parts as they are now, and a core that is put back to how it is
abbrev pub core_now : OrderCoreState → CoreParts
core_now c = record { table = c.table; kept = c.kept }

abbrev pub core_of : CoreParts → OrderCoreState
core_of parts = record { table = parts.table; kept = parts.kept; settled = parts }

-- from now on put back to how it is now
abbrev pub core_settled : OrderCoreState → OrderCoreState
core_settled c = record c { settled = record { table = c.table; kept = c.kept } }

-- put back to how it was settled
abbrev pub core_put_back : OrderCoreState → OrderCoreState
core_put_back c = record c { table = c.settled.table; kept = c.settled.kept }

-- how many clients there are
abbrev pub core_clients : OrderCoreState → ℕ
core_clients c = ledger.clients c.table

-- a client's number: from 1, in the order of the terms
abbrev pub IsCoreClient : OrderCoreState → ℕ → Type 0
IsCoreClient c client = ledger.IsClient c.table client

-- how many numbers were given, to orders, reports and tokens together
abbrev pub core_numbers : OrderCoreState → ℕ
core_numbers c = ledger.ledger_numbers c.table

-- what each call keeps
abbrev pub CoreKeeps : OrderCoreState → OrderCoreState → Type 0
CoreKeeps old new = ledger.Keeps old.table new.table

-- numbers are left for one call more, and for far more than any day has
abbrev pub CoreHasRoom : OrderCoreState → Type 0
CoreHasRoom c = ledger.HasRoom c.table

-- The core is as these turns, the newest first, leave it: its table is what they leave, and the messages that it
-- keeps are those that are outstanding.
unfoldable pub IsAfterTurns : List Terms → OrderHistory → OrderCoreState → Type 0
IsAfterTurns terms h c = TurnsLeave terms h c.table × KeepsOutstanding terms h c.kept
