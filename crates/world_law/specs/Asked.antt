-- All that a port's market was ever asked, answered or not, and where its tokens lead. (OUCH 4.2, "Inbound Messages".)
use Rattle.std.specs.Prelude.{◌≡◌, ℕ, List, [], ◌∷◌, ◌++◌, Option, Some, None, option_map, ◌⊎◌}
use Rattle.order_law.specs.ouch_codec.declared.inbound.Inbound.{Inbound}
use Rattle.order_law.specs.ouch_codec.Inbound.{inbound_bytes}
use Rattle.order_law.specs.Asks.{asked_by_new, Standing}
use Rattle.order_law.specs.History.{Terms, terms_of, OrderEvent, Came, Heard, OrderHistory, Asked, accepted, issued}
use Rattle.order_law.specs.History.{handled, entry_at, asks_of, token_of, Entry, new_of, Said, SaysNew, SaysReplace}
use Rattle.order_law.specs.History.{SaysCancel}
use Rattle.order_law.specs.Lawful.{order_of_token}
use Rattle.order_law.specs.Headline.{Each, Says}
use Rattle.market_law.specs.Run.{Move, Comes, Acts}

-- the client whose message it is, 0 for a market's
abbrev pub sender : OrderEvent → ℕ
sender (Came client m port) = client
sender (Heard port heard) = 0

-- all that a port was asked, in the order of asking
abbrev pub asked : List Terms → ℕ → OrderHistory → List Asked
asked terms port [] = []
asked terms port (t ∷ before) =
    asked terms port before
    ++ asks_of terms port (entry_at terms t.event before) (accepted terms before) (issued (sender t.event) before)
    (handled port before)

abbrev pub IsIn : {A : Type 0} → A → List A → Type 0
IsIn a [] = ⊥
IsIn a (x ∷ xs) = (x ≡ a) ⊎ IsIn a xs

-- The bytes say what the port was asked. By whose standing and by which orders they say so is any: they are those of
-- the time when it was asked.
pub record BytesAsked (terms : List Terms) (port : ℕ) (h : OrderHistory) (bytes : List ℕ) : Type 0 where
  pub asks : Asked
  pub there : IsIn asks (asked terms port h)
  pub standing : Standing
  pub order_of : List ℕ → Option ℕ
  pub says : Says standing order_of asks bytes

-- a message to the market says what the port was asked
abbrev pub WasAsked : List Terms → ℕ → OrderHistory → Inbound → Type 0
WasAsked terms port h message = BytesAsked terms port h (inbound_bytes message)

-- what comes to a port's market was asked of the port
abbrev pub CameAsked : List Terms → ℕ → OrderHistory → Move → Type 0
CameAsked terms port h (Comes message choice) = WasAsked terms port h message
CameAsked terms port h (Acts choice) = Unit {0}

-- ---- where tokens lead

-- the first token of the order that a token of the port leads to
abbrev pub leads : List Terms → ℕ → List Entry → List ℕ → Option (List ℕ)
leads terms port entries token = option_map token_of (order_of_token terms port entries token)

-- on this port a token leads to this order, and on any other one to none
pub record LeadsHome (terms : List Terms) (port : ℕ) (entries : List Entry) (token : List ℕ)
    (new : Entry) : Type 0 where
  pub mine : order_of_token terms port entries token ≡ Some new
  pub elsewhere : (q : ℕ) → (q ≡ port → ⊥) → order_of_token terms q entries token ≡ None

-- the tokens of what is asked lead to its order; a new order's is the order's own
abbrev pub TokensLead : List Terms → ℕ → List Entry → Entry → Said → Type 0
TokensLead terms port entries new (SaysNew token) = LeadsHome terms port entries token new × (token_of new ≡ token)
TokensLead terms port entries new (SaysReplace from to) = LeadsHome terms port entries from new
    × LeadsHome terms port entries to new
TokensLead terms port entries new (SaysCancel token) = LeadsHome terms port entries token new

-- It is asked of an order of the port, to which its tokens lead, as does the order's first token; and a new order is
-- asked with the terms of its own message.
pub record IsOfOrder (terms : List Terms) (port : ℕ) (entries : List Entry) (a : Asked) : Type 0 where
  pub new : Entry
  pub found : new_of a.order entries ≡ Some new
  pub on_port : (terms_of terms new.client).port ≡ port
  pub first : LeadsHome terms port entries (token_of new) new
  pub tokens : TokensLead terms port entries new a.said
  pub own : (token : List ℕ) → a.said ≡ SaysNew token
      → a.ask ≡ Some (asked_by_new (terms_of terms new.client).capacity new.message)

-- After every turn this holds of all that the port was ever asked by then; and an order that is known stays as it is.
abbrev pub AlwaysOfOrders : List Terms → ℕ → OrderHistory → Type 0
AlwaysOfOrders terms port [] = Unit {0}
AlwaysOfOrders terms port (t ∷ before) =
    Each (IsOfOrder terms port (accepted terms (t ∷ before))) (asked terms port (t ∷ before))
    × ((order : List ℕ) (new : Entry) → new_of order (accepted terms before) ≡ Some new
    → new_of order (accepted terms (t ∷ before)) ≡ Some new)
    × AlwaysOfOrders terms port before
