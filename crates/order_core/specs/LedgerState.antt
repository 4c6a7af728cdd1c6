-- What callers see of the table: how many clients and numbers there are.
use Rattle.std.specs.Prelude.{◌≡◌, ℕ, ◌+◌, ◌<◌, ◌≤◌, ◌^◌, length}
use Rattle.order_machine.specs.Table.{TableState}

-- the table now, and as it was settled
pub record LedgerState : Type 0 where
  pub now : TableState
  pub settled : TableState

-- how many clients there are
abbrev pub clients : TableState → ℕ
clients s = length s.terms

-- a client's number: from 1, in the order of the terms
pub record IsClient (s : TableState) (client : ℕ) : Type 0 where
  pub from_one : 1 ≤ client
  pub known : client ≤ clients s

-- how many numbers were given, to orders, reports and tokens together
abbrev pub ledger_numbers : TableState → ℕ
ledger_numbers s = s.order_ids + s.exec_ids + length s.tokens

-- what each call keeps: there are the same clients, and it gives three numbers at most
pub record Keeps (old new : TableState) : Type 0 where
  pub clients : clients new ≡ clients old
  pub issued : ledger_numbers new ≤ ledger_numbers old + 3

-- of each kind numbers are left for one call more, and for far more than any day has
pub record HasRoom (s : TableState) : Type 0 where
  pub orders : s.order_ids < 2 ^ 60
  pub reports : s.exec_ids < 2 ^ 60
  pub tokens : length s.tokens < 2 ^ 60
