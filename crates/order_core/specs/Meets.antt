-- When what the core gives is what the ledger gives, and what it keeps is what is asked and not answered.
use Rattle.std.specs.Prelude.{◌≡◌, ℕ, ◌++◌, List, [], Option, Some, None, Result, Ok, Err, decimal}
use Rattle.fix_types.specs.declared.application.AppMsg.{AppMsg}
use Rattle.market_messages.specs.ouch_codec.declared.inbound.Inbound.{Inbound}
use Rattle.market_messages.specs.ouch_codec.declared.outbound.Outbound.{Outbound}
use Rattle.market_messages.specs.ouch_codec.declared.refusal.DecodeRefusal.{DecodeRefusal}
use Rattle.outstanding.specs.order_law.History.{terms_of}
use Rattle.outstanding.specs.order_law.Verdicts.{Port, Down, Up, Ended, Faulted}
use Rattle.order_machine.specs.Machine.{faulty, market_step}
use Rattle.market_messages.specs.Turns.{market_fault_number}
use Rattle.outstanding.specs.Kept.{KeptMessage, kept_from, left_by}
use Rattle.order_core.specs.declared.market_error.MarketError.{MarketError}
use Rattle.order_core.specs.declared.market_error.MarketError.TheVariants as errors
use Rattle.order_core.specs.declared.ledger_turns.ChangedOrder.{ChangedOrder}
use Rattle.order_core.specs.declared.ledger_turns.ClientTurn.{ClientTurn}
use Rattle.order_core.specs.declared.ledger_turns.MarketTurn.{MarketTurn}
use Rattle.order_core.specs.LedgerMeets.{ChangesAny, GivesMarket, MeetsMessage}
use Rattle.order_core.specs.declared.outcome.CoreOut.{CoreOut}
use Rattle.order_core.specs.declared.outcome.MarketOut.{MarketOut}
use Rattle.order_core.specs.State.{OrderCoreState}

-- what goes out at once of what is asked
abbrev pub sent_of : Port → List Inbound → List Inbound
sent_of Up asks = asks
sent_of Down asks = []
sent_of Ended asks = []
sent_of (Faulted n) asks = []

-- a client's message: what the ledger gives is told and, where the port is up, sent; and all that is asked is kept
pub record MeetsClient (old : OrderCoreState) (client : ℕ) (message : AppMsg) (port : Port) (out : CoreOut)
    (new : OrderCoreState) : Type 0 where
  pub turn : ClientTurn
  pub gives : MeetsMessage old.table client message port turn new.table
  pub bodies : out.bodies.items ≡ turn.bodies.items
  pub sends : out.sends.items ≡ sent_of port turn.asks.items
  pub kept : new.kept ≡ old.kept ++ kept_from (terms_of old.table.terms client).port
      (decimal turn.order_id) turn.asks.items

-- what a message that changes this order leaves of what is kept; any other payload leaves all of it
abbrev pub left_after : ℕ → Result Outbound DecodeRefusal → Option ChangedOrder → List KeptMessage → List KeptMessage
left_after port heard None kept = kept
left_after port (Err refusal) (Some c) kept = kept
left_after port (Ok m) (Some c) kept = left_by port m c.next (decimal c.order_id) c.is_closed kept

-- a payload that is handled: what the ledger gives is told, and what it answers goes
pub record MeetsHandled (old : OrderCoreState) (port : ℕ) (heard : Result Outbound DecodeRefusal) (out : MarketOut)
    (new : OrderCoreState) : Type 0 where
  pub turn : MarketTurn
  pub gives : GivesMarket (market_step old.table port heard) turn new.table
  pub changes : ChangesAny old.table port heard turn.changed
  pub client : out.client ≡ turn.client
  pub bodies : out.bodies.items ≡ turn.bodies.items
  pub kept : new.kept ≡ left_after port heard turn.changed old.kept

-- A payload: what it gives, or the fault that it is, of which nothing else comes. Want of memory is no fault.
abbrev pub MeetsPayload : OrderCoreState → ℕ → Result Outbound DecodeRefusal → Result MarketOut MarketError
    → OrderCoreState → Type 0
MeetsPayload old port heard (Ok out) new = MeetsHandled old port heard out new
MeetsPayload old port heard (Err errors.NoMemory) new = Unit {0}
MeetsPayload old port heard (Err (errors.Faulty fault)) new = market_step old.table port heard
    ≡ faulty old.table (market_fault_number fault)
