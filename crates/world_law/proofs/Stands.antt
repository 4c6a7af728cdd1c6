-- What a port's session gives to what its market sends, to messages and to time.
use Rattle.std.proofs.Common.{◌≡◌, ◌≤◌, ◌<◌, ◌+◌, ◌-◌, ◌^◌, ℕ, Bool, true, false, not, List, [], ◌∷◌, map, refl, ap}
use Rattle.std.proofs.Common.{arith, Some, ◌⊎◌, inl, inr, eq-eqb}
use Rattle.std.specs.Prelude.{◌&&◌, ◌==◌, nat_lt, if◌then◌else◌}
use Rattle.std.proofs.lemmas.Bool.Decides.{nat_tests}
use Rattle.soup_session.specs.declared.port_state.PortState.TheVariants.{Down, LoggingIn, Up}
use Rattle.soup_session.specs.declared.port_turn.PortOut.{PortOut}
use Rattle.soup_session.specs.declared.port_turn.PortOut.TheVariants as packets
use Rattle.soup_session.specs.States.{is_up, is_open}
use Rattle.soup_session.specs.Writing.{heartbeat, login, message_packet, padded_right}
use Rattle.soup_session.specs.Table.{LoginTerms, PortCall, OnUp, OnPacket, OnGone, OnTick, Send, PortStanding}
use Rattle.soup_session.specs.Table.{PortAnswer, answer_in, arrives, blank, closes, heard_now, is_other, passed}
use Rattle.soup_session.specs.Table.{quiet_answer, says, sent_now, standing, wanted}
use Rattle.gate_law.specs.Settings.{Settings}
use Rattle.gate_law.specs.Sessions.{port_answer, port_outs, sends}
use Rattle.gate_law.proofs.Parts.{called}
use Rattle.market_sim.specs.Sim.{accepts_login, market_session, sequenced_packet, server_heartbeat}
use Rattle.world_law.proofs.Logins.{login-accepted}

-- the same but for moments
pub record Alike (x y : PortStanding) : Type 0 where
  pub state : y.state ≡ x.state
  pub session : y.session ≡ x.session
  pub arrived : y.arrived ≡ x.arrived
  pub number : y.number ≡ x.number

-- ---- messages that are sent

pub sends-alike : (terms : LoginTerms) (at : ℕ) (ms : List (List ℕ)) (calls : List PortCall)
    → Alike (standing terms calls) (standing terms (called (sends at ms) calls))
sends-alike terms at [] calls = record { state = refl; session = refl; arrived = refl; number = refl }
sends-alike terms at (m ∷ ms) calls = let k = sends-alike terms at ms (Send m at ∷ calls) in
    record { state = k.state; session = k.session; arrived = k.arrived; number = k.number }

pub sends-outs : (s : Settings) (p at : ℕ) (calls : List PortCall) (ms : List (List ℕ))
    → port_outs s p calls (sends at ms) ≡ map (λ (m : List ℕ). packets.Packet (message_packet m)) ms
unfolding port_answer
sends-outs s p at calls [] = refl
sends-outs s p at calls (m ∷ ms) = ap (λ (outs : List PortOut). packets.Packet (message_packet m) ∷ outs)
    (sends-outs s p at (Send m at ∷ calls) ms)

-- ---- a link comes up and is gone

pub up-answer : (terms : LoginTerms) (x : PortStanding) (at : ℕ) → x.state ≡ Down
    → answer_in terms x (OnUp at) ≡ says (login (padded_right 6 terms.user) (padded_right 10 terms.password) x.session
    (wanted x)) (record (sent_now (heard_now (passed at x))) { state = LoggingIn })
up-answer terms x at e = rw e refl

pub gone-answer : (terms : LoginTerms) (x : PortStanding) → is_open x.state ≡ true
    → answer_in terms x OnGone ≡ quiet_answer (record x { state = Down })
gone-answer terms x e = rw e refl

-- ---- packets of the market

-- a login that is accepted from the number that is wanted
pub accepted-answer : (terms : LoginTerms) (x : PortStanding) (at k : ℕ) → x.state ≡ LoggingIn
    → (x.session ≡ blank) ⊎ (x.session ≡ market_session) → wanted x ≡ k → 1 ≤ k → k < 2 ^ 63
    → answer_in terms x (OnPacket (accepts_login k) at)
    ≡ quiet_answer (record (heard_now (passed at x)) { state = Up; session = market_session; number = k })
accepted-answer terms x at k logging session is some small =
    let said_is = login-accepted k some small in
    let nonzero : (k == 0) ≡ false = above k some in
    let known : is_other market_session x.session ≡ false = by_session session in
    let no_gap : nat_lt (wanted x) k ≡ false = at-most (wanted x) k is in
    rw logging (rw said_is (rw nonzero (rw known (rw no_gap refl))))
  where
    above : (k : ℕ) → 1 ≤ k → (k == 0) ≡ false
    above k h = grind (arith, nat_tests)

    at-most : (m k : ℕ) → m ≡ k → nat_lt m k ≡ false
    at-most m k h = grind (arith, nat_tests)

    by_session : (x.session ≡ blank) ⊎ (x.session ≡ market_session) → is_other market_session x.session ≡ false
    by_session (inl e) = rw e refl
    by_session (inr e) = rw e refl

pub sequenced-answer : (terms : LoginTerms) (x : PortStanding) (at : ℕ) (payload : List ℕ) → x.state ≡ Up
    → answer_in terms x (OnPacket (sequenced_packet payload) at) ≡ arrives (heard_now (passed at x)) payload
sequenced-answer terms x at payload e = rw e refl

pub beat-answer : (terms : LoginTerms) (x : PortStanding) (at : ℕ) → is_open x.state ≡ true
    → answer_in terms x (OnPacket server_heartbeat at) ≡ quiet_answer (heard_now (passed at x))
beat-answer terms x at e = rw e refl

-- the packet with the number that is wanted delivers its payload
pub arrives-next : (y : PortStanding) (payload : List ℕ) → y.number ≡ wanted y
    → (arrives y payload).payload ≡ Some payload
arrives-next y payload e = let is = eq-eqb y.number (wanted y) e in rw is refl

pub wanted-next : (y : PortStanding) (payload : List ℕ) → y.number ≡ wanted y
    → wanted (arrives y payload).after ≡ wanted y + 1
wanted-next y payload e = let is = eq-eqb y.number (wanted y) e in rw is (omega arith)

-- ---- time

-- nothing happens, the link is closed, or a heartbeat goes out where the port is up
abbrev pub Ticked : PortStanding → PortAnswer → Type 0
Ticked y a = (a ≡ quiet_answer y) ⊎ ((a ≡ closes Down y) ⊎ ((a ≡ says heartbeat (sent_now y)) × (is_up y.state ≡ true)))

pub tick-answer : (terms : LoginTerms) (x : PortStanding) (at : ℕ) → is_open x.state ≡ true
    → Ticked (passed at x) (answer_in terms x (OnTick at))
tick-answer terms x at e =
    by_tests (is_open x.state) e (nat_lt 15_000 ((passed at x).now - x.heard))
    (is_up x.state && nat_lt 1_000 ((passed at x).now - x.sent)) (and-left (is_up x.state) _)
  where
    y : PortStanding
    y = passed at x

    and-left : (b c : Bool) → (b && c) ≡ true → b ≡ true
    and-left true c h = refl
    and-left false c h = absurd (cc)

    by_tests : (o : Bool) → o ≡ true → (late beat : Bool) → (beat ≡ true → is_up x.state ≡ true)
        → Ticked (passed at x) (if not o then quiet_answer (passed at x) else if late then closes Down
        (passed at x) else if beat then says heartbeat (sent_now (passed at x)) else quiet_answer (passed at x))
    by_tests true h true beat up = inr (inl refl)
    by_tests true h false true up = inr (inr (refl, up refl))
    by_tests true h false false up = inl refl
    by_tests false h late beat up = absurd (cc)

pub idle-answer : (terms : LoginTerms) (x : PortStanding) (at : ℕ) → is_open x.state ≡ false
    → answer_in terms x (OnTick at) ≡ quiet_answer (passed at x)
idle-answer terms x at e = rw e refl
