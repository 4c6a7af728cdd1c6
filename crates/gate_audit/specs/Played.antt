-- What came of a closed world's steps: its history, each order by both of its accounts, and what its market's book has
-- of it. (OUCH 4.2, "Order Token": a book has an order by its first token.)
use Rattle.std.specs.Prelude.{◌≡◌, ℕ, true, List, map, reverse, length}
use Rattle.market_law.specs.declared.row.BookRow.{BookRow}
use Rattle.market_law.specs.Rows.{row}
use Rattle.order_law.specs.declared.account.Account.{Account}
use Rattle.order_law.specs.Headline.{EachWith}
use Rattle.gate_law.specs.Settings.{Settings, port_of}
use Rattle.gate_law.specs.Holds.{Holds}
use Rattle.gate_journal.specs.Kept.{Kept, turns}
use Rattle.world_law.specs.Rows.{HasSide}
use Rattle.world_law.specs.World.{LeadsTo, World, WorldStep}
use Rattle.world_law.specs.Ports.{NoFaults}
use Rattle.world_law.specs.Promises.{AsksOnce, FillsOrKills, FindOne, IsAtRest, RestsAlike, StayWithin}
use Rattle.gate_audit.specs.Pairs.{OpenedOrder, Pair, opened_orders, orders_of, pairs, said_to_clients}
use Rattle.gate_audit.specs.Read.{for_clients}

-- what the market of a port has of an order
abbrev pub book_of : World → ℕ → OpenedOrder → BookRow
book_of w p o = row (w.markets p).book.book o.root

-- those of a client, the oldest first
abbrev pub books_of : Settings → World → ℕ → List BookRow
books_of s w client =
    map (book_of w (port_of s client)) (reverse (orders_of client (opened_orders (said_to_clients w.history))))

-- by client, and of each client in the order in which they were opened: as pairs stand
abbrev pub books : Settings → World → List BookRow
books s w = for_clients (books_of s w) (length s.clients)

-- ---- pairs beside books

-- What a client read of an order is what the market's book has of it: its side, where the book has one, and its shares
-- and value.
pub record IsAsBook (x : Account) (r : BookRow) : Type 0 where
  pub side : HasSide x.side r.side
  pub executed : x.executed ≡ r.executed
  pub unfilled : x.unfilled ≡ r.unfilled
  pub cancelled : x.cancelled ≡ r.cancelled
  pub value : x.value ≡ r.value

-- Both accounts of an order agree; and once all that its port's market said is handled, what its client read is what
-- the book has.
pub record AgreesWithBook (s : Settings) (w : World) (pair : Pair) (r : BookRow) : Type 0 where
  pub accounts : pair.agree ≡ true
  pub at_rest : IsAtRest s w (port_of s pair.client) → IsAsBook pair.fix r

-- ---- what is promised

-- of every world that steps lead to
pub record KeepsPromises (s : Settings) (w : World) : Type 0 where
  -- no batch of the gateway has a fault
  pub no_faults : NoFaults w.history
  -- each new order enters, and each replace replaces, at most once, with the terms that were asked
  pub once : (p : ℕ) → AsksOnce s w p
  -- the Cancel Orders of one request find at most one token live
  pub one_token : (p : ℕ) → FindOne w p
  -- what is executed and open of an order is at most the greatest quantity that was accepted for it
  pub within : (p : ℕ) → StayWithin s w p
  -- of a fill-or-kill order of which no replace was accepted nothing or all is executed
  pub all_or_nothing : (p : ℕ) → FillsOrKills s w p
  -- once all that a port's market said is handled, each client has read what the market's book has
  pub alike : (p : ℕ) → RestsAlike s w p

-- What these steps, the newest first, come to: a world that they lead to, its history, and its orders; and what is
-- promised of every such world.
pub record Plays (s : Settings) (steps : List WorldStep) (h : Kept) (rows : List BookRow) (ps : List Pair)
    : Type 0 where
  pub w : World
  pub leads : LeadsTo s steps w
  pub holds : Holds s w.history
  pub history : turns h ≡ w.history
  pub books : rows ≡ books s w
  pub pairs : ps ≡ pairs s w.history
  -- each order beside its row
  pub agree : EachWith (AgreesWithBook s w) ps rows
  pub keeps : KeepsPromises s w
