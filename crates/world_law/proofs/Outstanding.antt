-- All that is outstanding was asked.
use Rattle.std.proofs.Common.{ℕ, List, [], ◌∷◌, ◌++◌, filter, Option, Some, None, ◌⊎◌, inl, inr, ⊎_elim, Ok, Err}
use Rattle.std.specs.Prelude.{not, ◌||◌}
use Rattle.order_law.specs.Life.{is_closed}
use Rattle.order_law.specs.History.{Terms, OrderEvent, Came, Heard, OrderHistory, Asked, accepted, issued, handled}
use Rattle.order_law.specs.History.{entry_at, asks_of, is_answered, life_of, outstanding}
use Rattle.world_law.specs.Asked.{sender, asked, IsIn}
use Rattle.world_law.proofs.Members.{in-filtered, in-left, in-right, in-parts}

pub outstanding-asked : (terms : List Terms) (port : ℕ) (h : OrderHistory) (a : Asked)
    → IsIn a (outstanding terms port h) → IsIn a (asked terms port h)
outstanding-asked terms port [] a i = i
outstanding-asked terms port (t ∷ before) a i =
    by_event t.event t.fault i (λ k. outstanding-asked terms port before a k)
  where
    by_parts : (xs : List Asked) → IsIn a (outstanding terms port before) ⊎ IsIn a xs
        → (IsIn a (outstanding terms port before) → IsIn a (asked terms port before))
        → IsIn a (asked terms port before ++ xs)
    by_parts xs (inl k) earlier = in-left a (asked terms port before) xs (earlier k)
    by_parts xs (inr k) earlier = in-right a (asked terms port before) xs k

    by_event : (e : OrderEvent) (fault : Option ℕ)
        → IsIn a (outstanding terms port (record t { event = e; fault = fault } ∷ before))
        → (IsIn a (outstanding terms port before) → IsIn a (asked terms port before))
        → IsIn a (asked terms port before ++ asks_of terms port (entry_at terms e before) (accepted terms before)
        (issued (sender e) before) (handled port before))
    by_event (Came client m s) fault i earlier = by_parts _ (in-parts a (outstanding terms port before) _ i) earlier
    by_event (Heard p (Err r)) fault i earlier = by_parts _ (in-parts a (outstanding terms port before) _ i) earlier
    by_event (Heard p (Ok m)) (Some n) i earlier = by_parts _ (in-parts a (outstanding terms port before) _ i) earlier
    by_event (Heard p (Ok m)) None i earlier =
        in-left a (asked terms port before) [] (⊎_elim
        (λ k. earlier (in-filtered (λ (b : Asked). not
        (is_answered m (outstanding terms port before) b
        || is_closed (life_of b.order (accepted terms before)
        (handled port (record t { event = Heard p (Ok m); fault = None } ∷ before))).stage)) a
        (outstanding terms port before) k))
        (λ k. absurd k)
        (in-parts a (filter (λ (b : Asked). not (is_answered m (outstanding terms port before) b
        || is_closed (life_of b.order (accepted terms before)
        (handled port (record t { event = Heard p (Ok m); fault = None } ∷ before))).stage))
        (outstanding terms port before)) [] i))
