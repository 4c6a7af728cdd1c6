-- Trades that are marked as broken, and put back to what they were. Lists have the oldest trade first.
use Rattle.std.specs.Prelude.{ℕ, zero, suc, ◌==◌, Bool, false, List, [], ◌∷◌, Option, Some, None}
use Rattle.order_law.specs.Life.{marked, stands_as}
use Rattle.order_trades.specs.declared.told_trade.ToldTrade.{ToldTrade}

-- it has this match number
abbrev pub has_match : ℕ → ToldTrade → Bool
has_match match_number t = t.trade.match_number == match_number

-- it stands under this match number
abbrev pub told_stands : ℕ → ToldTrade → Bool
told_stands match_number t = stands_as match_number t.trade

-- a trade, marked as broken where it has this match number
abbrev pub told_marked : ℕ → ToldTrade → ToldTrade
told_marked match_number t = record t { trade = marked match_number t.trade }

-- a trade, not broken
abbrev pub told_unbroken : ToldTrade → ToldTrade
told_unbroken t = record t { trade = record t.trade { is_broken = false } }

-- with the item at a place as a function makes it
abbrev pub changed_at : {A : Type 0} → (A → A) → ℕ → List A → List A
changed_at f place [] = []
changed_at f zero (x ∷ xs) = f x ∷ xs
changed_at f (suc place) (x ∷ xs) = x ∷ changed_at f place xs

-- the same, where there is a place
abbrev pub changed_if : {A : Type 0} → (A → A) → Option ℕ → List A → List A
changed_if f None xs = xs
changed_if f (Some place) xs = changed_at f place xs
