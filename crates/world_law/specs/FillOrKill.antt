-- Fill or kill orders: all of their shares are traded, or none. (FIX 4.4 Volume 6, TimeInForce.)
use Rattle.std.specs.Prelude.{◌≡◌, ℕ, Bool, false, true, ◌&&◌, List, ◌⊎◌, bytes_eq, codes}
use Rattle.std.specs.List.{list_any}
use Rattle.fix_fields.specs.Field.{is}
use Rattle.order_law.specs.Asks.{total_of}
use Rattle.order_law.specs.Verdicts.{is_replace}
use Rattle.order_law.specs.History.{Entry, Terms, terms_of}

-- a replace of the order was accepted
abbrev pub is_replaced : List ℕ → List Entry → Bool
is_replaced order entries = list_any (λ (e : Entry). bytes_eq e.order order && is_replace e.message) entries

-- a new order of the port with TimeInForce (59) 4, of which no replace was accepted
abbrev pub IsFillOrKill : List Terms → ℕ → List Entry → Entry → Type 0
IsFillOrKill terms port entries new =
    ((terms_of terms new.client).port ≡ port)
    × (is 59 (codes "4") new.message ≡ true)
    × (is_replaced new.order entries ≡ false)

-- so many shares are none of the order's OrderQty (38), or all of it
abbrev pub AllOrNone : Entry → ℕ → Type 0
AllOrNone new shares = (shares ≡ 0) ⊎ (shares ≡ total_of new.message)
