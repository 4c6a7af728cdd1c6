-- What was accepted for an order in all, and which orders are fill or kill, computed on exchanges that are written
-- down.
use Rattle.std.proofs.Common.{◌≡◌, ℕ, Bool, true, false, List, [], None, codes, refl, inl, inr, ⊎_elim, arith}
use Rattle.std.specs.Prelude.{unwrap_or}
use Rattle.std.specs.Fmt.{digits}
use Rattle.fixed_point.specs.Decimal.{price, quantity, amount, amount_of, within, scaled, fraction, worth, worth_of}
use Rattle.tokens.specs.TokenText.{last_digits}
use Rattle.order_law.specs.History.{Entry, OrderHistory, accepted, new_of}
use Rattle.order_examples.specs.Transcript.{fixed_terms}
use Rattle.order_examples.specs.Exchanges.{only_entered, entered_and_accepted, four_unanswered, fill_or_kill}
use Rattle.order_examples.specs.SeveralReplaces.{second_of_four_rejected}
use Rattle.world_law.specs.FillOrKill.{AllOrNone, IsFillOrKill, is_replaced}
use Rattle.world_law.specs.Totals.{greatest_total}

abbrev greatest_in : List ℕ → OrderHistory → ℕ
greatest_in order h = greatest_total order (accepted fixed_terms h)

-- of the new order and of its replaces, the greatest, be they answered, unanswered or fallen; a cancel and a replace
-- that was refused have none
greatest_totals :
    (greatest_in (codes "1") [] ≡ 0)
    × (greatest_in (codes "1") only_entered ≡ 300)
    × (greatest_in (codes "2") only_entered ≡ 0)
    × (greatest_in (codes "1") four_unanswered ≡ 500)
    × (greatest_in (codes "2") four_unanswered ≡ 10)
    × (greatest_in (codes "1") second_of_four_rejected ≡ 600)
    × (greatest_in (codes "1") fill_or_kill ≡ 300)
unfolding digits price quantity amount amount_of within scaled fraction worth worth_of last_digits
greatest_totals = (refl, refl, refl, refl, refl, refl, refl)

abbrev replaced_in : List ℕ → OrderHistory → Bool
replaced_in order h = is_replaced order (accepted fixed_terms h)

-- a replace that was accepted, answered or not; not one that was refused
replaced_orders :
    (replaced_in (codes "1") entered_and_accepted ≡ false)
    × (replaced_in (codes "1") four_unanswered ≡ true)
    × (replaced_in (codes "2") four_unanswered ≡ false)
    × (replaced_in (codes "1") second_of_four_rejected ≡ true)
    × (replaced_in (codes "1") fill_or_kill ≡ false)
unfolding digits price quantity amount amount_of within scaled fraction worth worth_of last_digits
replaced_orders = (refl, refl, refl, refl, refl)

-- ---- fill or kill

abbrev no_entry : Entry
no_entry = record { client = 0; message = []; order = []; token = None }

abbrev first_order : OrderHistory → Entry
first_order h = unwrap_or (new_of (codes "1") (accepted fixed_terms h)) no_entry

abbrev IsFillOrKillIn : OrderHistory → ℕ → Type 0
IsFillOrKillIn h port = IsFillOrKill fixed_terms port (accepted fixed_terms h) (first_order h)

isnt_true : (b : Bool) → b ≡ false → b ≡ true → ⊥
isnt_true b e f = cc

-- by 59=4, on its own port; an order for the day isn't
fill_or_kills :
    IsFillOrKillIn fill_or_kill 1
    × (IsFillOrKillIn fill_or_kill 2 → ⊥)
    × (IsFillOrKillIn entered_and_accepted 1 → ⊥)
unfolding digits price quantity amount amount_of within scaled fraction worth worth_of last_digits
fill_or_kills = ((refl, refl, refl), λ k. omega (arith, k.0), λ k. isnt_true _ refl k.1)

-- of its 300 shares all or none
all_or_none :
    AllOrNone (first_order fill_or_kill) 300
    × AllOrNone (first_order fill_or_kill) 0
    × (AllOrNone (first_order fill_or_kill) 299 → ⊥)
unfolding digits price quantity amount amount_of within scaled fraction worth worth_of last_digits
all_or_none = (inr refl, inl refl, λ k. ⊎_elim (λ none. omega (arith, none)) (λ all. omega (arith, all)) k)
