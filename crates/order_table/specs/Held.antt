-- What the table holds, and what is found in it: `order_machine`'s words over the two lists.
use Rattle.std.specs.Prelude.{◌≡◌, ◌≤◌, ◌<◌, ◌+◌, ◌^◌, ℕ, nat_le, nat_lt, Bool, true, List, length, Option}
use Rattle.std.specs.Prelude.{option_and_then, decimal, if◌then◌else◌}
use Rattle.std.specs.List.{count_by, find, list_all, sum_by}
use Rattle.order_machine.specs.OrderRecord.{OrderRecord}
use Rattle.order_machine.specs.Table.{GivenToken, has_number, is_named, is_replacement_of, is_token, put}
use Rattle.order_table.specs.declared.sums.Sums.{Sums}
use Rattle.order_table.specs.Sums.{AreSums, is_small}

-- the newest first
pub record Lists : Type 0 where
  pub orders : List OrderRecord
  pub tokens : List GivenToken

-- the lists now, and as they were settled
pub record Held : Type 0 where
  pub orders : List OrderRecord
  pub tokens : List GivenToken
  pub settled : Lists

-- from now on put back to how it is now
abbrev pub settled_now : Held → Held
settled_now h = record h { settled = record { orders = h.orders; tokens = h.tokens } }

-- put back to how it was settled
abbrev pub put_back : Held → Held
put_back h = record h { orders = h.settled.orders; tokens = h.settled.tokens }

abbrev pub with_number : Held → ℕ → Option OrderRecord
with_number h order_id = find (has_number (decimal order_id)) h.orders

abbrev pub found : Held → ℕ → List ℕ → Option OrderRecord
found h port token = option_and_then (λ (g : GivenToken). find (has_number g.order) h.orders)
    (find (is_token port token) h.tokens)

-- with this order in the place of the one with its OrderID
abbrev pub changed : OrderRecord → Held → Held
changed o h = record h { orders = put o h.orders }

-- the order of a client that goes by this ClOrdID
abbrev pub found_by_id : Held → ℕ → List ℕ → Option OrderRecord
found_by_id h client id = find (is_named client id) h.orders

-- the tokens that an order has had, and those of its pending replaces
abbrev pub tokens_had : OrderRecord → ℕ
tokens_had o = length o.tokens + length o.replaces

-- They are at most one more than replaces of it were accepted.
abbrev pub is_counted : List GivenToken → OrderRecord → Bool
is_counted tokens o = nat_le (tokens_had o) (1 + count_by (is_replacement_of o.new.order) tokens)

abbrev pub one_if : Bool → ℕ
one_if b = if b then 1 else 0

-- there is a place for its client among so many
abbrev pub is_placed : ℕ → OrderRecord → Bool
is_placed places o = nat_lt o.new.client places

-- What holds of the lists with the sums of clients, now and as they were settled. As an order has executed little for
-- each token that it has had, and all have had no more tokens than were given, sums fit.
pub record IsCounted (tokens : List GivenToken) (sums : List Sums) (orders : List OrderRecord) : Type 0 where
  pub had : list_all (is_counted tokens) orders ≡ true
  pub by_client : AreSums sums orders
  pub placed : list_all (is_placed (length sums)) orders ≡ true
  pub small : list_all is_small orders ≡ true
  pub given : sum_by tokens_had orders ≤ length tokens
  pub few_tokens : length tokens < 2 ^ 64
  pub few_orders : length orders < 2 ^ 64
