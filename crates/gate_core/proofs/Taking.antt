-- The order level's turn of a client's message.
use Rattle.std.proofs.Common.{◌≡◌, ◌+◌, ◌<◌, ℕ, true, false, List, [], ◌∷◌, map, None, refl, ap, subst, arith}
use Rattle.std.specs.Prelude.{◌&&◌, nat_le}
use Rattle.std.proofs.lemmas.Bool.Decides.{nat_tests}
use Rattle.fix_types.specs.declared.application.AppMsg.{AppMsg}
use Rattle.fix_types.specs.Application.{body_fields, message_fields}
use Rattle.ouch_codec.specs.Inbound.{inbound_bytes}
use Rattle.soup_session.specs.declared.port_state.PortState.{PortState}
use Rattle.soup_session.specs.declared.port_state.PortState.TheVariants.{Down, LoggingIn, Up, Ended, Faulted}
use Rattle.soup_session.specs.States.{is_up}
use Rattle.gate_sessions.specs.order_law.Verdicts.{Port}
use Rattle.gate_sessions.specs.order_law.History.{Asked, Came, OrderTurn}
use Rattle.gate_sessions.specs.order_law.Headline.{Headline, Sends}
use Rattle.gate_settings.specs.to_market.declared.port_state.PortState.{PortState as Stands}
use Rattle.gate_settings.specs.to_market.PortsSeen.{port_seen}
use Rattle.order_core.specs.declared.outcome.CoreOut.{CoreOut}
use Rattle.order_core.specs.State.{IsAfterTurns}
use Rattle.order_core.specs.Turns.{client_turn}
use Rattle.gate_law.specs.Settings.{Settings, has_client, port_of, terms}
use Rattle.gate_law.specs.Lists.{Lists}
use Rattle.gate_law.specs.Sessions.{port_state, stands_of}
use Rattle.gate_core.specs.declared.parts.Parts.{Parts}
use Rattle.gate_core.specs.State.{ArePartsOf}
use Rattle.gate_core.specs.Steps.{IsTurn, orders_turn_of}

-- a place is that of a number that there is
pub has-place : (place count : ℕ) → place < count → (nat_le 1 (place + 1) && nat_le (place + 1) count) ≡ true
has-place place count inside =
    let from_one : nat_le 1 (place + 1) ≡ true = grind (arith, nat_tests) in
    let within : nat_le (place + 1) count ≡ true = grind (arith, nat_tests, inside) in
    rw (from_one, within) refl

none-sent : (state : PortState) (P : Asked → List ℕ → Type 0) (asked : List Asked) (sends : List (List ℕ))
    → is_up state ≡ false → Sends (stands_of state) P asked sends → sends ≡ []
none-sent Down P asked sends down none = none
none-sent LoggingIn P asked sends down none = none
none-sent Up P asked sends down says = absurd (cc)
none-sent Ended P asked sends down none = none
none-sent (Faulted n) P asked sends down none = none

same-turn : (s : Settings) (n : ℕ) (message : AppMsg) (out : CoreOut) (state : Stands) (v : Lists)
    → port_seen state ≡ stands_of (port_state s (port_of s n) (v.port_calls (port_of s n)))
    → client_turn n message state out ≡ orders_turn_of s n message out v
same-turn s n message out state v stands = ap turn stands
  where
    turn : Port → OrderTurn
    turn port = record {
      event = Came n (message_fields message) port;
      client = n;
      bodies =
          map body_fields out.bodies.items;
      sends = map inbound_bytes out.sends.items;
      fault = None;
    }

pub taken : {S H : Type 0} (s : Settings) (n : ℕ) (message : AppMsg) (out : CoreOut) (state : Stands) (v : Lists)
    (g new : Parts S H)
    → port_seen state ≡ stands_of (port_state s (port_of s n) (v.port_calls (port_of s n))) → has_client s n ≡ true
    → ArePartsOf s v g
    → IsAfterTurns (terms s) (client_turn n message state out ∷ v.turns) new.orders
    → Headline (terms s) (client_turn n message state out ∷ v.turns)
    → new.clients ≡ g.clients → new.ports ≡ g.ports → new.client_ports ≡ g.client_ports
    → IsTurn s n message out v new
taken s n message out state v g new stands has parts after headline same_clients same_ports same_client_ports =
    let is = same-turn s n message out state v stands in
    let holds : Headline (terms s) (orders_turn_of s n message out v ∷ v.turns) =
    subst (λ (t : OrderTurn). Headline (terms s) (t ∷ v.turns)) is headline in
    record {
      parts = record {
        clients = rw same_clients parts.clients;
        client_links = rw same_clients parts.client_links;
        ports = rw same_ports parts.ports;
        port_links = rw same_ports parts.port_links;
        orders = subst (λ (t : OrderTurn). IsAfterTurns (terms s) (t ∷ v.turns) new.orders) is after;
        client_ports = rw same_client_ports parts.client_ports;
        client_count = rw same_clients parts.client_count;
        port_count = rw same_ports parts.port_count;
        known = (has, parts.known);
      };
      headline = holds;
      sends = λ down. none-sent (port_state s (port_of s n) (v.port_calls (port_of s n))) _ _ _ down
          holds.0.answers.sends;
    }
