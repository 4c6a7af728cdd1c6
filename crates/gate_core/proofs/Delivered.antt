-- A payload is given only while the port is up, and leaves it so.
use Rattle.std.proofs.Common.{◌≡◌, ◌==◌, ℕ, Bool, true, false, List, ◌∷◌, Option, Some, None, refl}
use Rattle.std.specs.Prelude.{if◌then◌else◌, nat_lt}
use Rattle.gate_law.specs.soup_packets.declared.packet.Packet.{Packet}
use Rattle.soup_session.specs.declared.port_fault.PortFault.TheVariants.{StrangePacket}
use Rattle.soup_session.specs.declared.said.Said.{Said}
use Rattle.soup_session.specs.declared.said.Said.TheVariants.{Accepted, Rejected, Sequenced, Nothing, End, Strange}
use Rattle.soup_session.specs.Reading.{said_of}
use Rattle.soup_session.specs.States.{is_logging_in, is_open, is_up}
use Rattle.soup_session.specs.Table.{PortAnswer, PortCall, OnPacket, PortStanding, LoginTerms, answer_in, faults}
use Rattle.soup_session.specs.Table.{heard_now, on_said, is_other, logs_in, passed, quiet_answer, standing, wanted}
use Rattle.gate_law.specs.Settings.{Settings, port_terms}
use Rattle.gate_law.specs.Sessions.{port_answer, port_state}

abbrev WhileUp : Bool → PortAnswer → Type 0
WhileUp up a = (m : List ℕ) → a.payload ≡ Some m → (up ≡ true) × (is_up a.after.state ≡ true)

none-given : (up : Bool) (a : PortAnswer) → a.payload ≡ None → WhileUp up a
none-given up a none m some = absurd (cc)

while-if : (up b : Bool) (x y : PortAnswer) → (b ≡ true → WhileUp up x) → (b ≡ false → WhileUp up y)
    → WhileUp up (if b then x else y)
while-if up true x y f g = f refl
while-if up false x y f g = g refl

pub none-if : (b : Bool) (x y : PortAnswer) → x.payload ≡ None → y.payload ≡ None → (if b then x else y).payload ≡ None
none-if true x y f g = f
none-if false x y f g = g

pub logs-none : (s : PortStanding) (session : List ℕ) (number : Option ℕ) → (logs_in s session number).payload ≡ None
logs-none s session None = refl
logs-none s session (Some k) = none-if (k == 0) _ _ refl
    (none-if (is_other session s.session) _ _ refl (none-if (nat_lt (wanted s) k) _ _ refl refl))

hears-up : (s : PortStanding) (p : List ℕ) (said : Said) → WhileUp (is_up s.state) (on_said s p said)
hears-up s p (Accepted session number) = none-given (is_up s.state) (on_said s p (Accepted session number))
    (none-if (is_logging_in s.state) _ _ (logs-none s session number) refl)
hears-up s p Rejected = none-given (is_up s.state) (on_said s p Rejected)
    (none-if (is_logging_in s.state) _ _ refl refl)
hears-up s p Sequenced = while-if (is_up s.state) (is_up s.state) _ _ (λ up m some. (up, up))
    (λ down. none-given (is_up s.state) (faults StrangePacket s) refl)
hears-up s p Nothing = none-given (is_up s.state) (on_said s p Nothing) refl
hears-up s p End = none-given (is_up s.state) (on_said s p End) refl
hears-up s p Strange = none-given (is_up s.state) (on_said s p Strange) refl

packet-up : (terms : LoginTerms) (s : PortStanding) (packet : Packet) (at : ℕ)
    → WhileUp (is_up s.state) (answer_in terms s (OnPacket packet at))
packet-up terms s packet at =
    while-if (is_up s.state) (is_open s.state) _ _
    (λ is. hears-up (heard_now (passed at s)) packet.payload (said_of packet))
    (λ down. none-given (is_up s.state) (quiet_answer (passed at s)) refl)

pub delivered-while-up : (s : Settings) (p : ℕ) (before : List PortCall) (packet : Packet) (at : ℕ) (m : List ℕ)
    → (port_answer s p before (OnPacket packet at)).payload ≡ Some m
    → (is_up (port_state s p before) ≡ true) × (is_up (port_state s p (OnPacket packet at ∷ before)) ≡ true)
unfolding port_answer port_state
delivered-while-up s p before packet at m is =
    packet-up (port_terms s p) (standing (port_terms s p) before) packet at m is
