-- What was accepted for an order in all, and what a market's book has of it at most. (FIX 4.4 Volume 6, OrderQty.)
use Rattle.std.specs.Prelude.{◌≡◌, ℕ, ◌+◌, ◌≤◌, max, Bool, ◌&&◌, ◌||◌, List, [], ◌∷◌, Some, if◌then◌else◌, bytes_eq}
use Rattle.fix_fields.specs.Field.{Message}
use Rattle.order_law.specs.Asks.{total_of}
use Rattle.order_law.specs.Verdicts.{is_replace}
use Rattle.order_law.specs.History.{Entry, Terms, is_new_order}
use Rattle.order_law.specs.Lawful.{order_of_token}
use Rattle.market_law.specs.Machine.{BookOrder}

-- a new order or a replace says how many shares it is for in all
abbrev pub has_total : Message → Bool
has_total m = is_new_order m || is_replace m

-- the greatest OrderQty (38) of the accepted new order and replaces with this OrderID
abbrev pub greatest_total : List ℕ → List Entry → ℕ
greatest_total order [] = 0
greatest_total order (e ∷ entries) =
    if bytes_eq e.order order && has_total e.message then max (total_of e.message) (greatest_total order entries)
    else greatest_total order entries

-- what is executed and open of an order in the book is at most the greatest total that was accepted for the order that
-- its first token leads to
abbrev pub StaysWithin : List Terms → ℕ → List Entry → BookOrder → Type 0
StaysWithin terms port entries c =
    (new : Entry) → order_of_token terms port entries c.entered.token ≡ Some new
    → c.executed + c.unfilled ≤ greatest_total new.order entries
