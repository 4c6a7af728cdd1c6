-- What is known of each message that a machine says, from what it said before: of which order it is, and why it is
-- lawful. `root_of` leads a token to the first token of its order; `P` holds of what the machine was asked.
-- (OUCH 4.2, "Outbound Messages".)
use Rattle.std.specs.Prelude.{◌≡◌, ℕ, ◌==◌, ◌-◌, Bool, true, false, not, ◌&&◌, List, [], ◌∷◌, Option, Some, bytes_eq}
use Rattle.std.specs.Prelude.{◌⊎◌}
use Rattle.std.specs.List.{list_any}
use Rattle.order_law.specs.ouch_codec.declared.inbound.Inbound.{Inbound}
use Rattle.order_law.specs.ouch_codec.declared.inbound.Inbound.TheVariants as asked
use Rattle.order_law.specs.ouch_codec.declared.inbound.enter_order.EnterOrder.{EnterOrder}
use Rattle.order_law.specs.ouch_codec.declared.inbound.replace.Replace.{Replace}
use Rattle.order_law.specs.ouch_codec.declared.outbound.Outbound.{Outbound}
use Rattle.order_law.specs.ouch_codec.declared.outbound.Outbound.TheVariants as market
use Rattle.order_law.specs.ouch_codec.declared.outbound.replaced.Replaced.{Replaced}
use Rattle.order_law.specs.declared.trade.Trade.{Trade}
use Rattle.order_law.specs.Life.{Life, life, born, is_of, stands_as}
use Rattle.order_law.specs.Lawful.{works_as, may_leave}
use Rattle.market_law.specs.Messages.{accepted_by, replaced_by}

-- no trade of the order has the number
abbrev pub is_new_match : ℕ → Life → Bool
is_new_match match_number l = not (list_any (λ (t : Trade). t.match_number == match_number) l.trades)

-- the message uses this token for good
abbrev pub names : List ℕ → Outbound → Bool
names token (market.SystemEvent m) = false
names token (market.Accepted m) = bytes_eq token m.token
names token (market.Replaced m) = bytes_eq token m.token
names token (market.Canceled m) = false
names token (market.Executed m) = false
names token (market.Broken m) = false
names token (market.Rejected m) = bytes_eq token m.token
names token (market.CancelPending m) = false
names token (market.CancelReject m) = false
names token market.Skipped = false

module _ (root_of : List ℕ → Option (List ℕ)) (P : Inbound → Type 0) where
  -- of which order the token is, and what holds of its life
  abbrev pub OnOrder : List ℕ → (Life → Bool) → List Outbound → Type 0
  OnOrder token test before =
      (root : List ℕ) × (root_of token ≡ Some root) × ((side : ℕ) → test (life root side before) ≡ true)

  -- nothing was said of the order
  abbrev pub IsFirst : List ℕ → List Outbound → Type 0
  IsFirst token before =
      (root_of token ≡ Some token)
      × ((side : ℕ) → life token side before ≡ born token side)
      × (list_any (names token) before ≡ false)

  -- the answer to a replace of a working order by a token that wasn't named
  pub record OnReplace (from to : List ℕ) (before : List Outbound) : Type 0 where
    pub root : List ℕ
    pub leads_root : root_of root ≡ Some root
    pub leads_from : root_of from ≡ Some root
    pub leads_to : root_of to ≡ Some root
    pub works : (side : ℕ) → works_as (life root side before) from ≡ true
    pub request : Replace
    pub was_asked : P (asked.Replace request)
    pub is_from : request.token ≡ from
    pub is_to : request.replacement_token ≡ to
    pub unnamed : list_any (names to) before ≡ false

  -- The same message as the answer to a request with the terms of the order that was entered, and what is left open is
  -- the request's total less what is executed.
  pub record OnTerms (root : List ℕ) (request : Replace) (m : Replaced) (before : List Outbound) : Type 0 where
    pub order : EnterOrder
    pub was_entered : P (asked.Enter order)
    pub is_root : order.token ≡ root
    pub is_answer : market.Replaced m ≡ replaced_by order request m.shares m.shares_set m.order_state
    pub is_left : (side : ℕ) → m.shares ≡ request.shares - (life root side before).executed

  abbrev pub IsSaid : Outbound → List Outbound → Type 0
  IsSaid (market.SystemEvent m) before = Unit {0}
  IsSaid (market.Accepted m) before = IsFirst m.token before
      × ((order : EnterOrder) × P (asked.Enter order) × (market.Accepted m ≡ accepted_by order m.order_state))
  IsSaid (market.Replaced m) before =
      (r : OnReplace m.previous_token m.token before) × OnTerms r.root r.request m before
  IsSaid (market.Canceled m) before = OnOrder m.token (λ l. works_as l m.token && may_leave m.decrement l) before
  IsSaid (market.Executed m) before = OnOrder m.token
      (λ l. works_as l m.token && (may_leave m.shares l && is_new_match m.match_number l)) before
  IsSaid (market.Broken m) before = OnOrder m.token
      (λ l. is_of l m.token && list_any (stands_as m.match_number) l.trades) before
  IsSaid (market.Rejected m) before = IsFirst m.token before ⊎ ((from : List ℕ) × OnReplace from m.token before)
  IsSaid (market.CancelPending m) before = OnOrder m.token (λ l. works_as l m.token) before
  IsSaid (market.CancelReject m) before = OnOrder m.token (λ l. works_as l m.token) before
  IsSaid market.Skipped before = ⊥

  -- each, after those before it
  abbrev pub EachSaid : List Outbound → Type 0
  EachSaid [] = Unit {0}
  EachSaid (message ∷ before) = IsSaid message before × EachSaid before
