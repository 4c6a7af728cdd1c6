-- An order that is put back to what it had before it was changed.
use Rattle.std.specs.Prelude.{◌≡◌, ◌≤◌, ℕ, Bool, true, false, ◌&&◌, ◌||◌, ◌==◌, not, nat_le, List, [], ◌∷◌, length}
use Rattle.std.specs.Prelude.{drop, map, Option}
use Rattle.std.specs.Prelude.{option_map, unwrap_or, if◌then◌else◌, is_some}
use Rattle.order_machine.specs.order_law.Asks.{total_of}
use Rattle.order_machine.specs.order_law.Life.{is_waiting}
use Rattle.order_machine.specs.History.{Entry}
use Rattle.order_machine.specs.OrderRecord.{OrderRecord}
use Rattle.orders.specs.declared.earlier_order.EarlierOrder.{EarlierOrder}
use Rattle.orders.specs.declared.earlier_trades.EarlierTrades.{EarlierTrades}
use Rattle.orders.specs.Changes.{renames}
use Rattle.orders.specs.declared.change.Change.{Change}
use Rattle.orders.specs.EarlierTrades.{oldest, told_before}
use Rattle.orders.specs.Seen.{cancel_of, progressed, replace_of}

-- the tokens that it had before the live one, the newest first
abbrev pub had_before : OrderRecord → List (List ℕ)
had_before o = drop 1 o.tokens

-- An order can have had this: as many tokens, and, as it waited, the total that its client asked.
abbrev pub can_have_had : EarlierOrder → OrderRecord → Bool
can_have_had e o = nat_le e.earlier_count (length (had_before o))
    && (not (is_waiting e.progress.stage) || e.progress.total == total_of o.new.message)

-- what stays of an order stands as it is, and its lists are cut off
abbrev pub with_earlier : EarlierOrder → OrderRecord → OrderRecord
with_earlier e o = record (progressed e.progress o) {
  id = unwrap_or e.cl_ord_id o.id;
  tokens = e.token ∷ oldest e.earlier_count (had_before o);
  trades = told_before e.trades o.trades;
  replaces = map (replace_of o) e.replaces;
  cancel = option_map (cancel_of o) e.cancel;
}

-- an order that can't have had this stays
abbrev pub put_back : EarlierOrder → OrderRecord → OrderRecord
put_back e o = if can_have_had e o then with_earlier e o else o

-- some are pending
abbrev pub are_some : List Entry → Bool
are_some [] = false
are_some (q ∷ qs) = true

-- What it has before a change takes memory: a request is pending, or the change gives another id.
abbrev pub needs_memory : Change → OrderRecord → Bool
needs_memory change o = renames change || (are_some o.replaces || is_some o.cancel)

-- One that goes on from an earlier order: it has had its tokens, its ClOrdID was this or is the same, and its trades
-- were these.
pub record GoesOn (id : Option (List ℕ)) (earlier : EarlierTrades) (was now : OrderRecord) : Type 0 where
  pub asked : now.new ≡ was.new
  pub tokens : oldest (length (had_before was)) (had_before now) ≡ had_before was
  pub as_many : length (had_before was) ≤ length (had_before now)
  pub named : unwrap_or id now.id ≡ was.id
  pub trades : told_before earlier now.trades ≡ was.trades
