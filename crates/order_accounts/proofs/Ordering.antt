-- The places of orders on shelves.
use Rattle.std.proofs.Common.{◌≡◌, ◌<◌, ℕ, List, [], ◌∷◌, ◌++◌, get_or, length, refl, set, sym, subst, arith, eq-eqb}
use Rattle.std.proofs.lemmas.List.{length-set}
use Rattle.order_accounts.specs.Places.{place}
use Rattle.order_accounts.specs.Shelved.{AreShelved, HasOrders, IsNear, order_at}
use Rattle.order_accounts.proofs.Shelving.{more}

pub order-more : (orders : List (List ℕ)) (order : List ℕ) (shelves : List (List ℕ)) (k : ℕ) → length orders ≡ k
    → place (length shelves) order < length shelves → HasOrders orders shelves
    → HasOrders (orders ++ order ∷ []) (set shelves (place (length shelves) order)
    (get_or shelves (place (length shelves) order) [] ++ k ∷ []))
order-more orders order shelves k many inside has =
    let n : ℕ = place (length shelves) order in
    let new : List (List ℕ) = set shelves n (get_or shelves n [] ++ k ∷ []) in
    let same : length new ≡ length shelves = length-set shelves n (get_or shelves n [] ++ k ∷ []) in
    record {
      some = omega (arith, has.some, same);
      shelved = subst (λ (c : ℕ). AreShelved (order_at c) (orders ++ order ∷ []) new) (sym same)
          (more (order_at (length shelves)) orders order shelves n k many inside (λ i. refl) has.shelved);
    }

pub order-near : (orders : List (List ℕ)) (order : List ℕ) (shelves : List (List ℕ))
    → place (length shelves) order < length shelves → HasOrders orders shelves
    → IsNear order orders (get_or shelves (place (length shelves) order) [])
order-near orders order shelves inside has = record {
  is_near = order_at (length shelves) (place (length shelves) order);
  own = eq-eqb (place (length shelves) order) (place (length shelves) order) refl;
  places = has.shelved (place (length shelves) order) inside;
}
