-- The pending requests of an order, and the bodies that answer them.
use Rattle.std.specs.Prelude.{◌≡◌, ℕ, true, false, List, [], ◌∷◌, ◌++◌, map, Option, Some, None, IfSome, option_map}
use Rattle.std.specs.Prelude.{option_to_list}
use Rattle.orders.specs.fix_types.ReplaceRequest.{replace_request_fields}
use Rattle.orders.specs.declared.requests.Replacing.{Replacing}
use Rattle.order_law.specs.fix_fields.Field.{Message}
use Rattle.order_law.specs.History.{Entry}
use Rattle.order_law.specs.Headline.{Each}
use Rattle.order_law.specs.Verdicts.{is_replace}
use Rattle.order_law.specs.Told as law
use Rattle.orders.specs.order_machine.OrderRecord.{Cancelling}
use Rattle.to_client.specs.declared.pending.Pending.{Pending}
use Rattle.to_client.specs.declared.shown.Shown.{Shown}
use Rattle.to_client.specs.Shows.{IsAnyRequest}

abbrev pub cancel_in : Option Cancelling → Option Entry
cancel_in c = option_map (λ (x : Cancelling). x.request) c

-- what the clients of replaces asked
abbrev pub messages_in : List Replacing → List Message
messages_in rs = map (λ (r : Replacing). replace_request_fields r.message) rs

abbrev pub messages_of : List Entry → List Message
messages_of qs = map (λ (q : Entry). q.message) qs

-- the value has the pending requests of an order that is shown so: replaces, and then a cancel
pub record IsPending (x : Pending) (replaces : List Entry) (cancel : Option Entry) (s : law.Shown) : Type 0 where
  pub in_order : s.pending ≡ replaces ++ option_to_list cancel
  pub replaces_are : messages_in x.replaces.now ≡ messages_of replaces
  pub cancel_is : IsAnyRequest x.cancel cancel
  pub are_replaces : Each (λ (q : Entry). is_replace q.message ≡ true) replaces
  pub is_cancel_set : IfSome cancel (λ (q : Entry). is_replace q.message ≡ false)

-- the reject of a request, where there is one, with its order shown so
abbrev pub rejects_of : law.Shown → Option Entry → ℕ → List ℕ → List Message
rejects_of s None code why = []
rejects_of s (Some q) code why = law.answered_no s q code why ∷ []

-- Rejects of replaces that are pending one behind another, with these requests behind them: the first for one reason,
-- the others for another. Each shows its order with those pending that stand behind its own replace.
abbrev pub each_rejected : law.Shown → List Entry → List Entry → ℕ → List ℕ → List ℕ → List Message
each_rejected s [] later code why further = []
each_rejected s (q ∷ qs) later code why further =
    law.answered_no (record s { pending = qs ++ later }) q code why ∷ each_rejected s qs later code further further

-- no replace is pending
abbrev pub without_replaces : Shown → Shown
without_replaces x = record x { has_pending_replace = false }
