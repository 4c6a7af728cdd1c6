-- Where a trade with a match number stands. Lists have the oldest trade first.
use Rattle.std.specs.Prelude.{◌≡◌, ℕ, List, Some, slice_get, nat_eq, Option}
use Rattle.std.specs.Map.{lookup}
use Rattle.order_trades.specs.declared.told_trade.ToldTrade.{ToldTrade}

-- no two have the same match number
abbrev pub AreApart : List ToldTrade → Type 0
AreApart ts = (i j : ℕ) (a b : ToldTrade) → slice_get ts i ≡ Some a → slice_get ts j ≡ Some b
    → a.trade.match_number ≡ b.trade.match_number → i ≡ j

-- one stands at a place that has the match number
pub record IsAt (match_number : ℕ) (ts : List ToldTrade) (place : ℕ) : Type 0 where
  pub told : ToldTrade
  pub at : slice_get ts place ≡ Some told
  pub its_own : told.trade.match_number ≡ match_number

-- the place that is noted of a match number
abbrev pub noted : List (ℕ × ℕ) → ℕ → Option ℕ
noted places match_number = lookup (nat_eq match_number) places

-- the match number of each trade leads to its place
abbrev pub Leads : List (ℕ × ℕ) → List ToldTrade → Type 0
Leads places ts = (i : ℕ) (t : ToldTrade) → slice_get ts i ≡ Some t → noted places t.trade.match_number ≡ Some i
