-- The order level has no more turns than there were events.
use Rattle.std.proofs.Common.{◌≤◌, suc, Bool, true, false, [], ◌∷◌, Option, Some, None, sym, subst, length, arith}
use Rattle.std.specs.Prelude.{if◌then◌else◌}
use Rattle.order_law.specs.History as orders
use Rattle.gate_law.specs.Settings.{Settings}
use Rattle.gate_law.specs.Events.{History}
use Rattle.gate_law.specs.Lists.{Lists, turned}
use Rattle.gate_law.specs.Outcome.{Outcome, outcome}
use Rattle.gate_law.specs.After.{lists_after, lists, order_turns, is_within_day}
use Rattle.gate_law.proofs.Telling.{turns-after}

-- an event has one turn at most
one-turn : (t : Option orders.OrderTurn) (v : Lists) → length (turned t v).turns ≤ suc (length v.turns)
one-turn None v = omega arith
one-turn (Some t) v = omega arith

pub turns-few : (s : Settings) (h : History) → length (order_turns s h) ≤ length h
turns-few s [] = omega arith
turns-few s (t ∷ before) = by_limit (is_within_day before) (turns-few s before)
  where
    by_limit : (w : Bool) → length (order_turns s before) ≤ length before
        → length (if w then lists_after s t.event t.batch (lists s before) else lists s before).turns ≤ suc
        (length before)
    by_limit true few =
        let v : Lists = lists s before in
        let o : Outcome = outcome s t.event t.batch v in
        let one : length (turned o.turn v).turns ≤ suc (length v.turns) = one-turn o.turn v in
        subst (λ (turns : orders.OrderHistory). length turns ≤ suc (length before)) (sym (turns-after o t.batch v))
        (omega arith)
    by_limit false few = omega arith
