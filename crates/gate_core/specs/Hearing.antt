-- What a port is sent where it came up.
use Rattle.std.specs.Prelude.{◌≡◌, ℕ, Bool, true, false, not, ◌&&◌, List, []}
use Rattle.soup_session.specs.declared.port_state.PortState.{PortState}
use Rattle.soup_session.specs.States.{is_up}
use Rattle.gate_sessions.specs.order_law.History.{outstanding}
use Rattle.gate_sessions.specs.order_law.Headline.{EachWith, SaysIn}
use Rattle.gate_law.specs.Settings.{Settings, terms}
use Rattle.gate_law.specs.Events.{LinkOut}
use Rattle.gate_law.specs.Lists.{Lists}
use Rattle.gate_law.specs.Sessions.{port_state}
use Rattle.gate_core.specs.declared.parts.Parts.{Parts}
use Rattle.gate_core.specs.Steps.{IsSent}

-- a port that stood so and stands so now came up
abbrev pub came_up : PortState → PortState → Bool
came_up stood stands = not (is_up stood) && is_up stands

-- the messages that it is sent then: all that is outstanding on it, in order; else there are none
abbrev pub AreDue : Bool → Settings → ℕ → Lists → List (List ℕ) → Type 0
AreDue true s p v messages = EachWith (SaysIn (terms s) v.turns p) (outstanding (terms s) p v.turns) messages
AreDue false s p v messages = messages ≡ []

-- The port, which stood so before, is sent what is due.
pub record IsSentAgain {S H : Type 0} (s : Settings) (p at : ℕ) (stood : PortState) (outs : List LinkOut) (v : Lists)
    (new : Parts S H) : Type 0 where
  pub messages : List (List ℕ)
  pub due : AreDue (came_up stood (port_state s p (v.port_calls p))) s p v messages
  pub sent : IsSent s p at messages outs v new
