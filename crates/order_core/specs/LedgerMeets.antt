-- When what the code gives is what the table's step gives.
use Rattle.std.specs.Prelude.{◌≡◌, ℕ, List, Option, Some, None, Result, Ok, Err, map, decimal}
use Rattle.fix_types.specs.declared.application.AppMsg.{AppMsg}
use Rattle.fix_types.specs.Application.{body_fields, message_fields}
use Rattle.to_market.specs.ouch_codec.declared.outbound.Outbound.{Outbound}
use Rattle.to_market.specs.ouch_codec.declared.refusal.DecodeRefusal.{DecodeRefusal}
use Rattle.to_market.specs.ouch_codec.Inbound.{inbound_bytes}
use Rattle.to_market.specs.order_law.History.{Terms, terms_of}
use Rattle.to_market.specs.order_law.Headline.{Each, EachWith, Says}
use Rattle.to_market.specs.order_law.Life.{is_closed}
use Rattle.order_machine.specs.fix_fields.Field.{Message}
use Rattle.to_market.specs.order_law.Verdicts.{Port}
use Rattle.order_machine.specs.OrderRecord.{OrderRecord, replacements}
use Rattle.order_machine.specs.Table.{TableState, record_by_id, by_number, put}
use Rattle.order_machine.specs.Machine.{GivenByEvent, client_step, faulty, market_step}
use Rattle.order_machine.specs.Runs.{Finds}
use Rattle.market_messages.specs.Turns.{market_fault_number, order_heard}
use Rattle.order_core.specs.declared.market_error.MarketError.{MarketError}
use Rattle.order_core.specs.declared.market_error.MarketError.TheVariants.{NoMemory, Faulty}
use Rattle.to_market.specs.Turns.{AreOf}
use Rattle.order_core.specs.declared.ledger_turns.ChangedOrder.{ChangedOrder}
use Rattle.order_core.specs.declared.ledger_turns.ClientTurn.{ClientTurn}
use Rattle.order_core.specs.declared.ledger_turns.MarketTurn.{MarketTurn}
use Rattle.order_core.specs.Seen.{client_seen}

-- the order that a ClOrdID leads to is the one that its OrderID leads to
abbrev pub GoByNumbers : TableState → Type 0
GoByNumbers s = (client : ℕ) (id : List ℕ) (o : OrderRecord) → record_by_id s client id ≡ Some o
    → by_number s o.new.order ≡ Some o

-- The client is told, and its port is to be asked, what is given, and the table is as given. All of it is asked of
-- one order.
pub record GivesClient (terms : Terms) (client : ℕ) (g : GivenByEvent) (turn : ClientTurn)
    (new : TableState) : Type 0 where
  pub state : new ≡ g.state
  pub for_client : g.client ≡ client
  pub bodies : map body_fields turn.bodies.items ≡ g.bodies
  pub no_fault : g.fault ≡ None
  pub of_order : AreOf turn.order_id g.asks
  pub asks : (order_of : List ℕ → Option ℕ) → Each (Finds order_of) g.asks
      → EachWith (Says terms.standing order_of) g.asks (map inbound_bytes turn.asks.items)

-- a client's message, as fields
abbrev pub MeetsFields : TableState → ℕ → Message → Port → ClientTurn → TableState → Type 0
MeetsFields old client m port turn new = GivesClient (terms_of old.terms client) client
    (client_step old client m port) turn new

-- a client's message, in a table whose orders go by their numbers
abbrev pub MeetsMessage : TableState → ℕ → AppMsg → Port → ClientTurn → TableState → Type 0
MeetsMessage old client message port turn new = GoByNumbers old
    → MeetsFields old client (message_fields message) port turn new

-- a client is told what is given, and the table is as given
pub record GivesMarket (g : GivenByEvent) (turn : MarketTurn) (new : TableState) : Type 0 where
  pub state : new ≡ g.state
  pub client : client_seen turn.client ≡ g.client
  pub bodies : map body_fields turn.bodies.items ≡ g.bodies
  pub fault : g.fault ≡ None

-- A port's payload: what it gives, or the fault that it is, of which nothing else comes. Want of memory is no fault.
abbrev pub MeetsMarket : TableState → GivenByEvent → Result MarketTurn MarketError → TableState → Type 0
MeetsMarket old g (Ok turn) new = GivesMarket g turn new
MeetsMarket old g (Err NoMemory) new = Unit {0}
MeetsMarket old g (Err (Faulty fault)) new = g ≡ faulty old (market_fault_number fault)

-- The order that the message is on is changed, and no other: it keeps its OrderID and its client, and is closed then
-- or isn't. Replaces by these tokens were pending on it.
pub record ChangesOrder (s : TableState) (port : ℕ) (heard : Result Outbound DecodeRefusal)
    (c : ChangedOrder) : Type 0 where
  pub order : OrderRecord
  pub now : OrderRecord
  pub found : order_heard s port heard ≡ Some order
  pub same : now.new ≡ order.new
  pub of_order : now.new.order ≡ decimal c.order_id
  pub closed : is_closed now.stage ≡ c.is_closed
  pub next : c.next ≡ replacements order.replaces
  pub orders : (market_step s port heard).state.orders ≡ put now s.orders

-- a payload changes this order, or nothing
abbrev pub ChangesAny : TableState → ℕ → Result Outbound DecodeRefusal → Option ChangedOrder → Type 0
ChangesAny s port heard None = (market_step s port heard).state ≡ s
ChangesAny s port heard (Some c) = ChangesOrder s port heard c
