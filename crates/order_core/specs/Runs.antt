-- Runs of the order core: a list of events, and what came of each.
use Rattle.std.specs.Prelude.{◌≡◌, ℕ, Bool, true, ◌&&◌, nat_le, List, [], ◌∷◌, map, Some, None}
use Rattle.std.specs.List.{list_all}
use Rattle.fix_types.specs.Application.{body_fields, message_fields}
use Rattle.market_messages.specs.ouch_codec.Inbound.{inbound_bytes}
use Rattle.market_messages.specs.ouch_codec.Values.{decoded}
use Rattle.outstanding.specs.order_law.History as law
use Rattle.order_core.specs.declared.runs.Event.{Event}
use Rattle.order_core.specs.declared.runs.Event.TheVariants.{Came, Heard}
use Rattle.order_core.specs.declared.runs.Outcome.{Outcome}
use Rattle.to_market.specs.PortsSeen.{port_seen}
use Rattle.order_core.specs.Seen.{client_seen}

abbrev pub event_of : Event → law.OrderEvent
event_of (Came client message port) = law.Came client (message_fields message) (port_seen port)
event_of (Heard port payload) = law.Heard port (decoded payload.items)

-- an event with what came of it
abbrev pub outcome_turn : law.OrderEvent → Outcome → law.OrderTurn
outcome_turn event outcome = record {
  event = event;
  client = client_seen outcome.client;
  bodies = map body_fields outcome.bodies.items;
  sends = map inbound_bytes outcome.sends.items;
  fault = outcome.fault;
}

abbrev pub turn_of_outcome : Event → Outcome → law.OrderTurn
turn_of_outcome event outcome = outcome_turn (event_of event) outcome

-- the turns of these events and outcomes, the newest first, after those before
abbrev pub outcomes_onto : List Event → List Outcome → law.OrderHistory → law.OrderHistory
outcomes_onto [] outcomes before = before
outcomes_onto (e ∷ events) [] before = before
outcomes_onto (e ∷ events) (o ∷ outcomes) before = outcomes_onto events outcomes (turn_of_outcome e o ∷ before)

abbrev pub run_history : List Event → List Outcome → law.OrderHistory
run_history events outcomes = outcomes_onto events outcomes []

-- it says whom its bodies are for: the client whose message came; of a payload nobody where there are none
abbrev pub IsFor : Event → Outcome → Type 0
IsFor (Came client message port) outcome = outcome.client ≡ Some client
IsFor (Heard port payload) outcome = outcome.bodies.items ≡ [] → outcome.client ≡ None

-- its client is one of so many
abbrev pub is_known_client : ℕ → Event → Bool
is_known_client clients (Came client message port) = nat_le 1 client && nat_le client clients
is_known_client clients (Heard port payload) = true

abbrev pub AreKnown : ℕ → List Event → Type 0
AreKnown clients events = list_all (is_known_client clients) events ≡ true
