-- Items on shelves by their places: which stand where, and what that leaves to be read of an order.
use Rattle.std.specs.Prelude.{◌≡◌, ◌≤◌, ◌<◌, ◌==◌, ℕ, suc, Bool, true, false, List, [], ◌∷◌, ◌++◌, Option, Some, None}
use Rattle.std.specs.Prelude.{drop, get_or, length, take, if◌then◌else◌}
use Rattle.std.specs.List.{list_all}
use Rattle.ouch_codec.specs.declared.outbound.Outbound.{Outbound}
use Rattle.ouch_codec.specs.declared.outbound.Outbound.TheVariants as market
use Rattle.ouch_codec.specs.Tokens.{order_token}
use Rattle.order_accounts.specs.Places.{lead, place}

-- the places of the items that pass a test, where the first one stands at this place
abbrev pub places_of : {X : Type 0} → (X → Bool) → ℕ → List X → List ℕ
places_of p k [] = []
places_of p k (x ∷ xs) = if p x then k ∷ places_of p (suc k) xs else places_of p (suc k) xs

-- on each shelf stand the places of just the items that belong there, in their order
abbrev pub AreShelved : {X : Type 0} → (ℕ → X → Bool) → List X → List (List ℕ) → Type 0
AreShelved at items shelves = (i : ℕ) → i < length shelves → get_or shelves i [] ≡ places_of (at i) 0 items

-- what stands at these places
abbrev pub picked : {X : Type 0} → List X → List ℕ → List X
picked items [] = []
picked items (k ∷ ks) = take 1 (drop k items) ++ picked items ks

-- places of so many items
abbrev pub AreBelow : ℕ → List ℕ → Type 0
AreBelow n [] = Unit {0}
AreBelow n (k ∷ ks) = (k < n) × AreBelow n ks

-- ---- orders, by OrderID (37)

abbrev pub order_at : ℕ → ℕ → List ℕ → Bool
order_at count i order = place count order == i

-- the places of these orders stand on shelves
pub record HasOrders (orders : List (List ℕ)) (shelves : List (List ℕ)) : Type 0 where
  pub some : 1 ≤ length shelves
  pub shelved : AreShelved (order_at (length shelves)) orders shelves

-- these are the places of some of the orders: of all that have this OrderID, and maybe of others
pub record IsNear (order : List ℕ) (orders : List (List ℕ)) (near : List ℕ) : Type 0 where
  pub is_near : List ℕ → Bool
  pub own : is_near order ≡ true
  pub places : near ≡ places_of is_near 0 orders

-- ---- messages of the market, by where their tokens lead

abbrev pub leads_to : List ℕ → ℕ → Option (List ℕ) → Bool
leads_to leads i None = false
leads_to leads i (Some token) = lead leads token == i

abbrev pub message_at : List ℕ → ℕ → Outbound → Bool
message_at leads i m = leads_to leads i (order_token m)

-- a token that takes another's place leads to the same shelf
abbrev pub stays : List ℕ → Outbound → Bool
stays leads (market.Replaced m) = lead leads m.token == lead leads m.previous_token
stays leads other = true

-- these messages stand on shelves, each chain of tokens on one
pub record HasMessages (leads : List ℕ) (heard : List Outbound) (shelves : List (List ℕ)) : Type 0 where
  pub same : length shelves ≡ length leads
  pub stay : list_all (stays leads) heard ≡ true
  pub shelved : AreShelved (message_at leads) heard shelves
