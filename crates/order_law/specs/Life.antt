-- What the market's messages say of one order: a fold along its chain of tokens. (OUCH 4.2, "Outbound Messages".)
use Rattle.std.specs.Prelude.{map, ℕ, Bool, true, false, not, ◌&&◌, ◌+◌, ◌-◌, ◌*◌, ◌==◌, List, [], ◌∷◌, Option, Some}
use Rattle.std.specs.Prelude.{None, if◌then◌else◌, bytes_eq}
use Rattle.std.specs.List.{list_any, find}
use Rattle.ouch_codec.specs.declared.outbound.Outbound.{Outbound}
use Rattle.ouch_codec.specs.declared.outbound.Outbound.TheVariants as market
use Rattle.ouch_codec.specs.declared.order_state.OrderState.{OrderState}
use Rattle.ouch_codec.specs.declared.order_state.OrderState.TheVariants.{Live, Dead}
use Rattle.order_law.specs.declared.account.Account.{Account}
use Rattle.order_law.specs.declared.stage.Stage.{Stage}
use Rattle.order_law.specs.declared.stage.Stage.TheVariants.{Waiting, Working, Closed}
use Rattle.order_law.specs.declared.trade.Trade.{Trade}

pub record Life : Type 0 where
  -- the byte that FIX writes
  pub side : ℕ
  -- the tokens that the chain has had live, the live one first
  pub tokens : List (List ℕ)
  pub stage : Stage
  pub unfilled : ℕ
  pub executed : ℕ
  pub cancelled : ℕ
  -- shares times price of the trades that stand
  pub value : ℕ
  pub trades : List Trade

abbrev pub is_waiting : Stage → Bool
is_waiting Waiting = true
is_waiting Working = false
is_waiting Closed = false

abbrev pub is_working : Stage → Bool
is_working Waiting = false
is_working Working = true
is_working Closed = false

abbrev pub is_closed : Stage → Bool
is_closed Waiting = false
is_closed Working = false
is_closed Closed = true

-- the first, or no bytes where there is none
abbrev pub first_token : List (List ℕ) → List ℕ
first_token [] = []
first_token (token ∷ tokens) = token

abbrev pub live : Life → List ℕ
live l = first_token l.tokens

-- before any message
abbrev pub born : List ℕ → ℕ → Life
born root side = record {
  side = side;
  tokens = root ∷ [];
  stage = Waiting;
  unfilled = 0;
  executed = 0;
  cancelled = 0;
  value = 0;
  trades = [];
}

-- all that is open is cancelled
abbrev pub dead : Life → Life
dead l = record l { stage = Closed; cancelled = l.cancelled + l.unfilled; unfilled = 0 }

-- over where nothing is open
abbrev pub settled : Life → Life
settled l = if l.unfilled == 0 then record l { stage = Closed } else l

-- in the book with so many shares, or dead at once
abbrev pub opened : ℕ → Bool → Life → Life
opened shares is_over l = if is_over then dead (working l) else working l
  where
    working : Life → Life
    working before = record before { stage = Working; unfilled = shares }

abbrev pub traded : ℕ → ℕ → ℕ → Life → Life
traded match_number shares price l = settled (record l {
  unfilled = l.unfilled - shares;
  executed = l.executed + shares;
  value = l.value + shares * price;
  trades = record { match_number = match_number; shares = shares; price = price; is_broken = false } ∷ l.trades;
})

abbrev pub decreased : ℕ → Life → Life
decreased shares l = settled (record l { unfilled = l.unfilled - shares; cancelled = l.cancelled + shares })

-- it has this number and stands
abbrev pub stands_as : ℕ → Trade → Bool
stands_as match_number t = t.match_number == match_number && not t.is_broken

abbrev pub marked : ℕ → Trade → Trade
marked match_number t = if t.match_number == match_number then record t { is_broken = true } else t

-- the trade with that number is taken back; what was open stays open
abbrev pub broken : ℕ → Life → Life
broken match_number l = without (find (stands_as match_number) l.trades)
  where
    without : Option Trade → Life
    without None = l
    without (Some t) = record l {
      executed = l.executed - t.shares;
      value = l.value - t.shares * t.price;
      trades = map (marked match_number) l.trades;
    }

-- the token is or was the live one of the chain
abbrev pub is_of : Life → List ℕ → Bool
is_of l token = list_any (bytes_eq token) l.tokens

abbrev pub is_live : Life → List ℕ → Bool
is_live l token = bytes_eq token (live l)

-- dead as it is answered
abbrev pub is_dead : OrderState → Bool
is_dead Live = false
is_dead Dead = true

-- What a message makes of an order: a line for each. Rejected of a replacement, and every other one, make nothing of
-- it.
abbrev pub after : Life → Outbound → Life
after l (market.Accepted m) = if is_live l m.token && is_waiting l.stage
    then opened m.shares (is_dead m.order_state) l else l
after l (market.Replaced m) = if is_live l m.previous_token
    then opened m.shares (is_dead m.order_state) (record l { tokens = m.token ∷ l.tokens }) else l
after l (market.Executed m) = if is_live l m.token then traded m.match_number m.shares m.price l else l
after l (market.Canceled m) = if is_live l m.token then decreased m.decrement l else l
after l (market.Broken m) = if is_of l m.token then broken m.match_number l else l
after l (market.Rejected m) = if is_live l m.token && is_waiting l.stage then record l { stage = Closed } else l
after l other = l

-- the order whose first token is `root`, after these messages, the newest first
abbrev pub life : List ℕ → ℕ → List Outbound → Life
life root side [] = born root side
life root side (m ∷ earlier) = after (life root side earlier) m

-- its side and its quantities
abbrev pub account_of : Life → Account
account_of l = record {
  side = l.side;
  unfilled = l.unfilled;
  executed = l.executed;
  cancelled = l.cancelled;
  value = l.value;
  is_closed = is_closed l.stage;
}
