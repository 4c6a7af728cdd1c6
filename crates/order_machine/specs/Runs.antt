-- Which table a run of turns leaves.
use Rattle.std.specs.Prelude.{◌≡◌, ℕ, ◌<◌, ◌^◌, List, [], ◌∷◌, length, Option, Some, option_map}
use Rattle.std.specs.Str.Parse.{digits_value}
use Rattle.order_law.specs.History.{Asked, Said, SaysNew, SaysReplace, SaysCancel, Terms, terms_of, OrderEvent, Came}
use Rattle.order_law.specs.History.{Heard, OrderHistory, OrderTurn}
use Rattle.order_law.specs.Headline.{Says, Sends}
use Rattle.order_machine.specs.OrderRecord.{OrderRecord}
use Rattle.order_machine.specs.Table.{TableState, record_by_token, table_without_orders}
use Rattle.order_machine.specs.Machine.{GivenByEvent, table_step}

-- So few turns that numbers are left for one more: a turn gives three at most, and they stay below 2 ^ 60.
abbrev pub NumbersLeft : {X : Type 0} → List X → Type 0
NumbersLeft turns = length turns < 2 ^ 58

-- the tokens of a port lead to these orders
abbrev pub LeadsTo : TableState → ℕ → (List ℕ → Option ℕ) → Type 0
LeadsTo s port order_of = (token : List ℕ) → order_of token
    ≡ option_map (λ (o : OrderRecord). digits_value 10 o.new.order) (record_by_token s port token)

-- the token that a message is about leads to the order with this OrderID. A new order's token is its own.
abbrev pub finds_said : (List ℕ → Option ℕ) → List ℕ → Said → Type 0
finds_said order_of order (SaysNew token) = Unit {0}
finds_said order_of order (SaysReplace from to) = order_of from ≡ Some (digits_value 10 order)
finds_said order_of order (SaysCancel token) = order_of token ≡ Some (digits_value 10 order)

-- the token that a message is about leads to the order that it is asked of
abbrev pub Finds : (List ℕ → Option ℕ) → Asked → Type 0
Finds order_of a = finds_said order_of a.order a.said

-- what is sent in a turn: where the port is up, messages that say what is asked
abbrev pub SendsAs : TableState → OrderEvent → GivenByEvent → List (List ℕ) → Type 0
SendsAs old (Came client m port) g sends =
    (order_of : List ℕ → Option ℕ) → LeadsTo g.state (terms_of old.terms client).port order_of
    → Sends port (Says (terms_of old.terms client).standing order_of) g.asks sends
SendsAs old (Heard port heard) g sends = sends ≡ []

-- a turn is what its event gives, and leaves the table that it gives
pub record TurnMeets (old : TableState) (event : OrderEvent) (g : GivenByEvent) (t : OrderTurn)
    (s : TableState) : Type 0 where
  pub state : s ≡ g.state
  pub client : t.client ≡ g.client
  pub bodies : t.bodies ≡ g.bodies
  pub fault : t.fault ≡ g.fault
  pub sends : SendsAs old event g t.sends

-- one turn leads from one table to the next
pub record Leads (old : TableState) (t : OrderTurn) (s : TableState) : Type 0 where
  pub meets : TurnMeets old t.event (table_step old t.event) t s

-- the turns, the newest first, leave this table
unfoldable pub TurnsLeave : List Terms → OrderHistory → TableState → Type 0
TurnsLeave terms [] s = s ≡ table_without_orders terms
TurnsLeave terms (t ∷ before) s = (old : TableState) × TurnsLeave terms before old × Leads old t s

-- the turns leave some table: each of them is just what the machine gives
abbrev pub IsTableRun : List Terms → OrderHistory → Type 0
IsTableRun terms h = (s : TableState) × TurnsLeave terms h s
