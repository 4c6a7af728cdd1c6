-- What clients have read of their orders: by the batches of a history alone, and as the order level's turns have it.
-- (FIX 4.4 Volume 4, "Execution Report".)
use Rattle.std.specs.Prelude.{ℕ, suc, ◌≤◌, ◌==◌, Bool, ◌&&◌, List, [], ◌++◌, map, filter, reverse, length, codes}
use Rattle.gate_law.specs.fix_fields.Field.{Message, text, is}
use Rattle.order_law.specs.Reading.{Reading, is_report, reading}
use Rattle.order_law.specs.History as orders
use Rattle.order_law.specs.History.{Entry, accepted, is_new_order}
use Rattle.order_law.specs.Headline.{Agree, Each, life_in}
use Rattle.order_accounts.specs.Held.{StaysHeld}
use Rattle.gate_law.specs.Settings.{Settings, terms}
use Rattle.gate_law.specs.Events.{History}
use Rattle.gate_law.specs.After.{order_turns}
use Rattle.gate_law.specs.Holds.{told_by_batches}

-- what a client has read of one of its orders: OrderID (37), and the first ClOrdID (11)
pub record ReadOrder : Type 0 where
  pub client : ℕ
  pub order : List ℕ
  pub id : List ℕ
  pub reading : Reading

-- ---- by the batches

-- an order that was accepted, by its OrderID and first ClOrdID
pub record Opened : Type 0 where
  pub order : List ℕ
  pub id : List ℕ

-- the report tells that a new order was accepted (FIX 4.4 Volume 6, ExecType (150): A is Pending New)
abbrev pub opens_new_order : Message → Bool
opens_new_order r = is_report r && is 150 (codes "A") r

abbrev pub opened_by : Message → Opened
opened_by r = record { order = text 37 r; id = text 11 r }

abbrev pub opened_in : List Message → List Opened
opened_in sent = map opened_by (filter opens_new_order sent)

-- what a client that was sent these, the newest first, has read of an order
abbrev pub read_in : ℕ → List Message → Opened → ReadOrder
read_in client sent o = record { client = client; order = o.order; id = o.id; reading = reading o.order sent }

-- and of all its orders, the oldest first
abbrev pub read_by : ℕ → List Message → List ReadOrder
read_by client sent = map (read_in client sent) (reverse (opened_in sent))

-- what there is for each client from 1 to this number
abbrev pub for_clients : {X : Type 0} → (ℕ → List X) → ℕ → List X
for_clients f ℕ.zero = []
for_clients f (suc n) = for_clients f n ++ f (suc n)

abbrev pub readings : ℕ → History → List ReadOrder
readings clients h = for_clients (λ client. read_by client (told_by_batches client h)) clients

-- what a client that was sent these, the newest first, read of these orders stays within integers
abbrev pub AreReadHeld : List Message → List Opened → Type 0
AreReadHeld sent os = Each (λ (o : Opened). StaysHeld o.order sent) os

-- and of all orders of each client from 1 to this number
abbrev pub AllReadHeld : ℕ → History → Type 0
AllReadHeld clients h = (client : ℕ) → 1 ≤ client → client ≤ clients
    → AreReadHeld (told_by_batches client h) (reverse (opened_in (told_by_batches client h)))

-- ---- by the order level's turns

-- the accepted new orders, the newest first
abbrev pub accepted_new_orders : Settings → History → List Entry
accepted_new_orders s h = filter (λ (e : Entry). is_new_order e.message) (accepted (terms s) (order_turns s h))

abbrev pub opened_as : Entry → Opened
opened_as new = record { order = new.order; id = text 11 new.message }

-- those of a client, the oldest first, each with what the client has read of it
abbrev pub accepted_orders_of : Settings → History → ℕ → List ReadOrder
accepted_orders_of s h client =
    map (λ (new : Entry). read_in client (orders.issued client (order_turns s h)) (opened_as new))
    (reverse (filter (λ (e : Entry). e.client == client) (accepted_new_orders s h)))

-- by client, and of each client in the order in which they were accepted
abbrev pub accepted_readings : Settings → History → List ReadOrder
accepted_readings s h = for_clients (accepted_orders_of s h) (length s.clients)

-- what the client has read of the order is what the market said of it, in side, open, executed and cancelled
-- quantity, value, and whether it is closed
abbrev pub AgreesIn : Settings → History → Entry → Type 0
AgreesIn s h new = Agree (reading new.order (orders.issued new.client (order_turns s h)))
    (life_in (terms s) (order_turns s h) new)
