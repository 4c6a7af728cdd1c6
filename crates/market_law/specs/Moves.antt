-- What is known of what comes to a machine.
use Rattle.std.specs.Prelude.{◌≡◌, ℕ, suc, ◌+◌, ◌≤◌, Bool, if◌then◌else◌, List, [], ◌∷◌, Option, Some, ◌⊎◌}
use Rattle.order_law.specs.ouch_codec.declared.inbound.Inbound.{Inbound}
use Rattle.order_law.specs.ouch_codec.declared.inbound.Inbound.TheVariants.{Enter, Replace, Cancel}
use Rattle.market_law.specs.Machine.{BookOrder}
use Rattle.market_law.specs.Run.{Move, Comes, Acts}

-- Tokens lead to their orders, each to the first token of its order, and what comes was asked. Of a Cancel Order
-- nothing need be known.
module _ (root_of : List ℕ → Option (List ℕ)) (P : Inbound → Type 0) where
  abbrev pub IsKnown : Move → Type 0
  IsKnown (Comes (Enter order) choice) = (root_of order.token ≡ Some order.token) × P (Enter order)
  IsKnown (Comes (Replace request) choice) =
      (root_of request.replacement_token ≡ root_of request.token) × P (Replace request)
  IsKnown (Comes (Cancel request) choice) = Unit {0}
  IsKnown (Acts choice) = Unit {0}

-- it is one of these
abbrev pub IsOneOf : List Inbound → Inbound → Type 0
IsOneOf [] message = ⊥
IsOneOf (one ∷ others) message = (one ≡ message) ⊎ IsOneOf others message

-- how many pass the test
abbrev pub times : {A : Type 0} → (A → Bool) → List A → ℕ
times test [] = 0
times test (x ∷ xs) = if test x then suc (times test xs) else times test xs

-- what is executed and open is at most what was asked for the order, which its first token names
module _ (limit : List ℕ → ℕ) where
  abbrev pub IsWithin : BookOrder → Type 0
  IsWithin c = c.executed + c.unfilled ≤ limit c.entered.token

-- what comes asks for no more than that
module _ (root_of : List ℕ → Option (List ℕ)) (limit : List ℕ → ℕ) where
  abbrev pub IsSmall : Move → Type 0
  IsSmall (Comes (Enter order) choice) = order.shares ≤ limit order.token
  IsSmall (Comes (Replace request) choice) =
      (root : List ℕ) → root_of request.token ≡ Some root → request.shares ≤ limit root
  IsSmall (Comes (Cancel request) choice) = Unit {0}
  IsSmall (Acts choice) = Unit {0}

-- An order whose minimum quantity is all of its shares trades all or nothing, as long as no replace of it was taken.
abbrev pub IsAllOrNothing : BookOrder → Type 0
IsAllOrNothing c = c.replacements ≡ [] → c.entered.minimum_quantity ≡ c.entered.shares
    → (c.executed ≡ 0) ⊎ (c.executed ≡ c.entered.shares)
