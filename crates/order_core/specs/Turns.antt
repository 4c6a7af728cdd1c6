-- Calls of the order core as turns of a history.
use Rattle.std.specs.Prelude.{ℕ, [], Some, None, map, Result, Ok, Err}
use Rattle.fix_types.specs.declared.application.AppMsg.{AppMsg}
use Rattle.fix_types.specs.Application.{body_fields, message_fields}
use Rattle.market_messages.specs.ouch_codec.Inbound.{inbound_bytes}
use Rattle.market_messages.specs.ouch_codec.declared.outbound.Outbound.{Outbound}
use Rattle.market_messages.specs.ouch_codec.declared.refusal.DecodeRefusal.{DecodeRefusal}
use Rattle.outstanding.specs.order_law.History.{Came, Heard, OrderTurn}
use Rattle.market_messages.specs.Turns.{market_fault_number}
use Rattle.market_messages.specs.declared.market_fault.MarketFault.{MarketFault}
use Rattle.order_core.specs.declared.market_error.MarketError.{MarketError}
use Rattle.order_core.specs.declared.market_error.MarketError.TheVariants as errors
use Rattle.order_core.specs.declared.outcome.CoreOut.{CoreOut}
use Rattle.order_core.specs.declared.outcome.MarketOut.{MarketOut}
use Rattle.to_market.specs.declared.port_state.PortState.{PortState}
use Rattle.to_market.specs.PortsSeen.{port_seen}
use Rattle.order_core.specs.Seen.{client_seen}

-- a client's turn
abbrev pub client_turn : ℕ → AppMsg → PortState → CoreOut → OrderTurn
client_turn client message port out = record {
  event = Came client (message_fields message) (port_seen port);
  client = client;
  bodies = map body_fields out.bodies.items;
  sends = map inbound_bytes out.sends.items;
  fault = None;
}

-- a port's turn: it was handled, or it is a fault
abbrev pub told_turn : ℕ → Result Outbound DecodeRefusal → MarketOut → OrderTurn
told_turn port heard out = record {
  event = Heard port heard;
  client = client_seen out.client;
  bodies = map body_fields out.bodies.items;
  sends = [];
  fault = None;
}

abbrev pub fault_turn : ℕ → Result Outbound DecodeRefusal → MarketFault → OrderTurn
fault_turn port heard fault = record {
  event = Heard port heard;
  client = 0;
  bodies = [];
  sends = [];
  fault = Some (market_fault_number fault);
}

-- a call that ran out of memory is no turn
abbrev pub OfCall : ℕ → Result Outbound DecodeRefusal → Result MarketOut MarketError → (OrderTurn → Type 0) → Type 0
OfCall port heard (Ok out) P = P (told_turn port heard out)
OfCall port heard (Err errors.NoMemory) P = Unit {0}
OfCall port heard (Err (errors.Faulty fault)) P = P (fault_turn port heard fault)
