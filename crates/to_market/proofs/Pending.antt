-- The pending requests of an order, as the chain of its ids has them.
use Rattle.std.proofs.Common.{◌≡◌, ℕ, suc, List, [], ◌∷◌, ◌++◌, length, map, refl, ap}
use Rattle.std.specs.Prelude.{not, filter, Option, Some, None, is_some, option_map}
use Rattle.std.specs.List.{list_any}
use Rattle.order_law.specs.Chain.{Request}
use Rattle.order_machine.specs.OrderRecord.{cancel_entry, request_of}
use Rattle.orders.specs.declared.requests.Cancelling.{Cancelling}
use Rattle.orders.specs.declared.requests.Replacing.{Replacing}
use Rattle.orders.specs.Seen.{cancel_seen, replace_seen}

module _ (client order_id : ℕ) where
  abbrev requests : List Replacing → Option Cancelling → List Request
  requests rs c = map request_of (map (replace_seen client order_id) rs
      ++ cancel_entry (option_map (cancel_seen client order_id) c))

  pub any-cancel : (rs : List Replacing) (c : Option Cancelling)
      → list_any (λ (q : Request). not q.is_replace) (requests rs c) ≡ is_some c
  any-cancel [] None = refl
  any-cancel [] (Some c) = refl
  any-cancel (r ∷ rs) c = any-cancel rs c

  pub count-replaces : (rs : List Replacing) (c : Option Cancelling)
      → length (filter (λ (q : Request). q.is_replace) (requests rs c)) ≡ length rs
  count-replaces [] None = refl
  count-replaces [] (Some c) = refl
  count-replaces (r ∷ rs) c = ap suc (count-replaces rs c)
