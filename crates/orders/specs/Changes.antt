-- What a change makes of an order, in `order_machine`'s words: a change has of a message what is left to do with it.
use Rattle.std.specs.Prelude.{◌≡◌, ◌≢◌, ◌≤◌, ◌==◌, ℕ, Bool, true, false, List, [], ◌∷◌, Option, Some, None, bytes_eq}
use Rattle.std.specs.List.{list_any}
use Rattle.order_machine.specs.fixed_point.Decimal.{most_shares}
use Rattle.order_machine.specs.order_law.declared.stage.Stage.TheVariants.{Waiting, Working}
use Rattle.order_machine.specs.History.{Entry, token_of}
use Rattle.order_machine.specs.OrderRecord.{OrderRecord, after_canceled, after_traded, at, live_token, market_refused}
use Rattle.order_machine.specs.OrderRecord.{over_if, put_in_book, renamed, replacements, still_after, unasked}
use Rattle.order_machine.specs.OrderRecord.{ToldTrade, with_trade_broken}
use Rattle.orders.specs.declared.change.Change.{Change}
use Rattle.orders.specs.declared.change.Change.TheVariants.{Opened, Replaced, Canceled, Traded, Broken, Refused}
use Rattle.orders.specs.declared.change.Change.TheVariants.{NotReplaced, NotCanceled}
use Rattle.orders.specs.Seen.{told_seen}

-- in the book under the oldest of its pending replaces, and the Cancel Order of its old token is answered
abbrev pub replaced_as : ℕ → ℕ → Bool → OrderRecord → List Entry → OrderRecord
replaced_as shares price is_dead o [] = o
replaced_as shares price is_dead o (q ∷ qs) =
    over_if is_dead (at (put_in_book shares price (renamed (token_of q) q o)) qs
    (still_after (bytes_eq (live_token o)) o.cancel))

abbrev pub changed_by : Change → OrderRecord → OrderRecord
changed_by (Opened shares price is_dead) o = over_if is_dead (put_in_book shares price o)
changed_by (Replaced shares price is_dead) o = replaced_as shares price is_dead o o.replaces
changed_by (Canceled shares) o = after_canceled shares o
changed_by (Traded t) o = after_traded t.number t.trade o
changed_by (Broken t) o = with_trade_broken (told_seen t) o
changed_by Refused o = unasked (market_refused o)
changed_by NotReplaced o = at o []
    (still_after (λ token. list_any (bytes_eq token) (replacements o.replaces)) o.cancel)
changed_by (NotCanceled token) o = at o o.replaces (still_after (bytes_eq token) o.cancel)

-- one of its trades has this match number
abbrev pub holds_match : ℕ → OrderRecord → Bool
holds_match match_number o = list_any (λ (t : ToldTrade). t.trade.match_number == match_number) o.trades

-- a change that can be of this order
abbrev pub Fits : Change → OrderRecord → Type 0
Fits (Opened shares price is_dead) o = (o.stage ≡ Waiting) × (shares ≤ most_shares)
Fits (Replaced shares price is_dead) o = (o.stage ≡ Working) × (shares ≤ most_shares)
Fits (Canceled shares) o = (o.stage ≡ Working) × (shares ≤ o.unfilled)
Fits (Traded t) o = (o.stage ≡ Working) × (t.trade.shares ≤ o.unfilled)
    × (holds_match t.trade.match_number o ≡ false)
Fits (Broken t) o = o.stage ≢ Waiting
Fits Refused o = o.stage ≡ Waiting
Fits NotReplaced o = Unit {0}
Fits (NotCanceled token) o = Unit {0}

-- the match number of the trade that it breaks
abbrev pub breaks : Change → Option ℕ
breaks (Broken t) = Some t.trade.match_number
breaks (Opened shares price is_dead) = None
breaks (Replaced shares price is_dead) = None
breaks (Canceled shares) = None
breaks (Traded t) = None
breaks Refused = None
breaks NotReplaced = None
breaks (NotCanceled token) = None

-- it may give the order another ClOrdID
abbrev pub renames : Change → Bool
renames (Replaced shares price is_dead) = true
renames (Opened shares price is_dead) = false
renames (Canceled shares) = false
renames (Traded t) = false
renames (Broken t) = false
renames Refused = false
renames NotReplaced = false
renames (NotCanceled token) = false

-- an order with the stage and the quantities of another
abbrev pub with_quantities : OrderRecord → OrderRecord → OrderRecord
with_quantities r o = record o {
  stage = r.stage;
  is_refused = r.is_refused;
  total = r.total;
  price = r.price;
  unfilled = r.unfilled;
  executed = r.executed;
  cancelled = r.cancelled;
  value = r.value;
}
