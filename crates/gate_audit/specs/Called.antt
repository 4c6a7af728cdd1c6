-- A session that the code calls once more is the one that is read.
use Rattle.std.specs.Prelude.{◌≡◌, ◌+◌, ◌^◌, ℕ, nat_lt, List, [], ◌∷◌, length, reverse, if◌then◌else◌}
use Rattle.gate_core.specs.soup_session.Table.{LoginTerms}
use Rattle.gate_core.specs.soup_session.Calls.{CallsLeave}
use Rattle.gate_law.specs.Events.{History, Turn}
use Rattle.gate_law.specs.Settings.{Settings, port_terms}
use Rattle.order_accounts.specs.ouch_codec.declared.outbound.Outbound.{Outbound}
use Rattle.gate_law.specs.After.{is_within_day}
use Rattle.gate_audit.specs.declared.port_again.PortAgain.{PortAgain}
use Rattle.gate_audit.specs.declared.messages.HandledSoFar.{HandledSoFar}
use Rattle.gate_audit.specs.Again.{Again, called_again}

pub record IsAgain (terms : LoginTerms) (r : Again) (x : PortAgain) : Type 0 where
  pub link : x.link ≡ r.link
  pub session : CallsLeave terms r.calls x.session.port
  pub handled : x.handled.items ≡ reverse r.handled

-- how many turns of a history are stepped
abbrev pub stepped_of : History → ℕ
stepped_of h = if is_within_day h then length h else 2 ^ 48

-- the session of the port of this number, called with the turns of a history
pub record IsHandled (terms : LoginTerms) (port : ℕ) (h : History) (x : HandledSoFar) : Type 0 where
  pub own : x.port ≡ port
  pub again : IsAgain terms (called_again terms port h) x.again
  pub stepped : x.stepped ≡ stepped_of h

-- the messages that a port's session delivered
abbrev pub heard_on : HandledSoFar → List Outbound
heard_on x = x.again.handled.items

-- the sessions of ports side by side, the first of them at this place
abbrev pub AreHandled : Settings → History → ℕ → List HandledSoFar → Type 0
AreHandled s h k [] = Unit {0}
AreHandled s h k (x ∷ xs) = IsHandled (port_terms s (k + 1)) (k + 1) h x × AreHandled s h (k + 1) xs

-- the same where those before a place were called with one turn more
abbrev pub AreStepped : Settings → Turn → History → (i k : ℕ) → List HandledSoFar → Type 0
AreStepped s t h i k [] = Unit {0}
AreStepped s t h i k (x ∷ xs) = IsHandled (port_terms s (k + 1)) (k + 1) (if nat_lt k i then t ∷ h else h) x
    × AreStepped s t h i (k + 1) xs
