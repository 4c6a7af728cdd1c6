-- What holds of every world that steps lead to: no batch has a fault; each order is entered, and each replace is made,
-- at most once, and the Cancel Orders of one request find at most one token live; no more is executed and open than was
-- accepted, and of a fill-or-kill order nothing or all; and at rest each client has read what the market's book has.
use Rattle.std.specs.Prelude.{◌≡◌, ℕ, ◌≤◌, true, List, filter, length, is_some}
use Rattle.order_law.specs.Headline.{Each}
use Rattle.order_law.specs.History.{Entry, OrderHistory, SaysCancel, accepted, handled, is_new_order, issued}
use Rattle.order_law.specs.History.{token_of}
use Rattle.order_law.specs.Reading.{reading}
use Rattle.market_law.specs.Machine.{live_order}
use Rattle.market_law.specs.Moves.{times}
use Rattle.market_law.specs.Rows.{row}
use Rattle.market_law.specs.Run.{ran}
use Rattle.market_law.specs.Said.{EachSaid, names}
use Rattle.gate_law.specs.Settings.{Settings, port_of, terms}
use Rattle.gate_law.specs.After.{order_turns}
use Rattle.world_law.specs.Asked.{IsIn, WasAsked, leads}
use Rattle.world_law.specs.FillOrKill.{AllOrNone, IsFillOrKill}
use Rattle.world_law.specs.Rows.{ReadsAsBook}
use Rattle.world_law.specs.Totals.{StaysWithin}
use Rattle.world_law.specs.World.{Arrival, World}

-- the order level's turns of a world
abbrev pub turns_of : Settings → World → OrderHistory
turns_of s w = order_turns s w.history

-- ---- what a port's market is asked, it does at most once

-- The machine names each token at most once, so each new order enters, and each replace replaces, at most once; and
-- each with the terms that were asked.
pub record AsksOnce (s : Settings) (w : World) (p : ℕ) : Type 0 where
  pub once : (token : List ℕ) → times (names token) (ran (w.moves p)).said ≤ 1
  pub with_terms :
      EachSaid (leads (terms s) p (accepted (terms s) (turns_of s w))) (WasAsked (terms s) p (turns_of s w))
      (ran (w.moves p)).said

-- a Cancel Order of this token comes, and an order is live under it
abbrev pub FindsLive : Arrival → List ℕ → Type 0
FindsLive a token = (a.asks.said ≡ SaysCancel token) × (is_some (live_order a.before token) ≡ true)

-- The Cancel Orders of one request, with their repeats, find at most one token live as they arrive. Which request it is
-- is told by the order and the ClOrdID.
abbrev pub FindOne : World → ℕ → Type 0
FindOne w p = (a b : Arrival) (t u : List ℕ) → IsIn a (w.arrived p) → IsIn b (w.arrived p)
    → a.asks.order ≡ b.asks.order → a.asks.id ≡ b.asks.id → FindsLive a t → FindsLive b u → t ≡ u

-- ---- shares

-- What is executed and open of an order in the book is at most the greatest quantity that was accepted for it.
abbrev pub StayWithin : Settings → World → ℕ → Type 0
StayWithin s w p = Each (StaysWithin (terms s) p (accepted (terms s) (turns_of s w))) (ran (w.moves p)).machine.book

-- ---- at rest

-- all that the port's market said is handled
abbrev pub IsAtRest : Settings → World → ℕ → Type 0
IsAtRest s w p = length (ran (w.moves p)).said ≡ length (handled p (turns_of s w))

-- There, what its client read of each order of the port is what the market's book has of it.
abbrev pub RestsAlike : Settings → World → ℕ → Type 0
RestsAlike s w p = IsAtRest s w p
    → Each (λ (new : Entry). port_of s new.client ≡ p
    → ReadsAsBook (reading new.order (issued new.client (turns_of s w))) (row (w.markets p).book.book (token_of new)))
    (filter (λ (e : Entry). is_new_order e.message) (accepted (terms s) (turns_of s w)))

-- ---- fill or kill

-- What is executed of a fill-or-kill order of which no replace was accepted is nothing or all of it, in the market's
-- book; and at rest in what its client read.
pub record FillsOrKills (s : Settings) (w : World) (p : ℕ) : Type 0 where
  pub in_book :
      Each (λ (new : Entry). IsFillOrKill (terms s) p (accepted (terms s) (turns_of s w)) new
      → AllOrNone new (row (w.markets p).book.book (token_of new)).executed)
      (filter (λ (e : Entry). is_new_order e.message) (accepted (terms s) (turns_of s w)))
  pub in_reading :
      IsAtRest s w p
      → Each (λ (new : Entry). IsFillOrKill (terms s) p (accepted (terms s) (turns_of s w)) new
      → AllOrNone new (reading new.order (issued new.client (turns_of s w))).executed)
      (filter (λ (e : Entry). is_new_order e.message) (accepted (terms s) (turns_of s w)))
