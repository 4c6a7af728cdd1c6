-- The pending requests of an order, as it keeps them.
use Rattle.std.proofs.Common.{◌≡◌, ℕ, true, false, List, [], ◌∷◌, ◌++◌, length, map, refl, ap, arith, ne_eqb}
use Rattle.std.specs.Prelude.{◌==◌, not, Option, Some, None, IfSome, is_some, option_map, option_to_list}
use Rattle.std.specs.List.{list_any}
use Rattle.orders.specs.declared.requests.Cancelling.{Cancelling}
use Rattle.orders.specs.declared.requests.Replacing.{Replacing}
use Rattle.orders.specs.order_machine.OrderRecord.{cancel_entry}
use Rattle.orders.specs.Seen.{cancel_seen, replace_seen}
use Rattle.order_law.specs.History.{Entry}
use Rattle.order_law.specs.Headline.{Each}
use Rattle.order_law.specs.Verdicts.{is_replace}
use Rattle.order_law.specs.Told as law
use Rattle.orders.specs.order_machine.OrderRecord as order_machine
use Rattle.to_client.specs.Pending.{cancel_in, messages_in, messages_of}

module _ (client order_id : ℕ) where
  abbrev pub replaces_in : List Replacing → List Entry
  replaces_in rs = map (replace_seen client order_id) rs

  abbrev pub pending_in : List Replacing → Option Cancelling → List Entry
  pending_in rs c = replaces_in rs ++ cancel_entry (option_map (cancel_seen client order_id) c)

  pub messages-seen : (rs : List Replacing) → messages_in rs ≡ messages_of (replaces_in rs)
  messages-seen [] = refl
  messages-seen (r ∷ rs) = ap (λ ms. (replace_seen client order_id r).message ∷ ms) (messages-seen rs)

  pub are-replaces : (rs : List Replacing) → Each (λ (q : Entry). is_replace q.message ≡ true) (replaces_in rs)
  are-replaces [] = tt
  are-replaces (r ∷ rs) = (refl, are-replaces rs)

  pub any-cancel-seen : (rs : List Replacing) (c : Option Cancelling)
      → list_any law.is_cancel (pending_in rs c) ≡ is_some c
  any-cancel-seen [] None = refl
  any-cancel-seen [] (Some c) = refl
  any-cancel-seen (r ∷ rs) c = any-cancel-seen rs c

  pub any-replace-seen : (rs : List Replacing) (c : Option Cancelling)
      → list_any (λ (q : Entry). is_replace q.message) (pending_in rs c) ≡ not (length rs == 0)
  any-replace-seen [] None = refl
  any-replace-seen [] (Some c) = refl
  any-replace-seen (r ∷ rs) c = let more : (length (r ∷ rs) == 0) ≡ false =
      ne_eqb (length (r ∷ rs)) 0 (λ e. omega (arith, e)) in rw more refl

  pub is-cancel : (c : Option Cancelling) → IfSome (cancel_in (option_map (cancel_seen client order_id) c))
      (λ (q : Entry). is_replace q.message ≡ false)
  is-cancel None = tt
  is-cancel (Some c) = refl

pub entry-listed : (c : Option order_machine.Cancelling) → cancel_entry c ≡ option_to_list (cancel_in c)
entry-listed None = refl
entry-listed (Some c) = refl
