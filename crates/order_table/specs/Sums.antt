-- What the orders of each client come to: how many aren't closed, and what was executed of all of them.
use Rattle.std.specs.Prelude.{◌≡◌, ◌≤◌, ◌<◌, ◌+◌, ◌*◌, ◌^◌, ◌==◌, ℕ, Bool, ◌&&◌, not, nat_le, List, length, slice_get}
use Rattle.std.specs.Prelude.{unwrap_or, if◌then◌else◌}
use Rattle.std.specs.List.{sum_by}
use Rattle.undo_orders.specs.orders.order_law.Life.{is_closed}
use Rattle.order_machine.specs.OrderRecord.{OrderRecord}
use Rattle.order_machine.specs.Table.{open_count}
use Rattle.order_table.specs.declared.sums.Sums.{Sums}

-- a number, where it is the client's own
abbrev pub part : Bool → ℕ → ℕ
part is_own n = if is_own then n else 0

-- ---- of orders

abbrev pub own_executed : ℕ → OrderRecord → ℕ
own_executed client o = part (o.new.client == client) o.executed

abbrev pub own_value : ℕ → OrderRecord → ℕ
own_value client o = part (o.new.client == client) o.value

-- CumQty (14) of a client's orders in sum, in shares
abbrev pub executed_sum : List OrderRecord → ℕ → ℕ
executed_sum orders client = sum_by (own_executed client) orders

-- shares times price of the trades of a client's orders that stand, in sum, in 1/10,000
abbrev pub value_sum : List OrderRecord → ℕ → ℕ
value_sum orders client = sum_by (own_value client) orders

-- ---- as they are kept

abbrev pub no_sums : Sums
no_sums = record { value = 0; executed = 0; still_open = 0 }

-- of one order
abbrev pub sums_of : OrderRecord → Sums
sums_of o = record { value = o.value; executed = o.executed; still_open = part (not (is_closed o.stage)) 1 }

-- of a client, at the place of its number; past the end there are none
abbrev pub sums_at : List Sums → ℕ → Sums
sums_at kept client = unwrap_or (slice_get kept client) no_sums

-- they are those of the client's orders
pub record AreSumsOf (orders : List OrderRecord) (client : ℕ) (sums : Sums) : Type 0 where
  pub still_open : sums.still_open ≡ open_count orders client
  pub executed : sums.executed ≡ executed_sum orders client
  pub value : sums.value ≡ value_sum orders client

-- what stands at each client's number is that of its orders
abbrev pub AreSums : List Sums → List OrderRecord → Type 0
AreSums kept orders = (client : ℕ) → AreSumsOf orders client (sums_at kept client)

-- ---- what one order comes to, in the place of what it came to

-- each is no more than the other's
pub record IsPart (one all : Sums) : Type 0 where
  pub still_open : one.still_open ≤ all.still_open
  pub executed : one.executed ≤ all.executed
  pub value : one.value ≤ all.value

-- with one taken off, another may be added
pub record HasRoom (was becomes all : Sums) : Type 0 where
  pub still_open : all.still_open + becomes.still_open < 2 ^ 64 + was.still_open
  pub executed : all.executed + becomes.executed < 2 ^ 128
  pub value : all.value + becomes.value < 2 ^ 128

-- sums before and after, of the client whose order it is, or of another
pub record IsExchanged (is_own : Bool) (was becomes before after : Sums) : Type 0 where
  pub still_open : after.still_open + part is_own was.still_open ≡ before.still_open + part is_own becomes.still_open
  pub executed : after.executed + part is_own was.executed ≡ before.executed + part is_own becomes.executed
  pub value : after.value + part is_own was.value ≡ before.value + part is_own becomes.value

-- ---- how large they get

-- An order executes fewer than 2^20 shares under each token that it has had, each at a price below 2^32.
abbrev pub is_small : OrderRecord → Bool
is_small o =
    nat_le o.executed (1_048_576 * length o.tokens) && nat_le o.value (4_503_599_627_370_496 * length o.tokens)
