-- What the calls of a port's session bring: the payload that an answer has is just what it adds to what is delivered.
use Rattle.std.proofs.Common.{◌≡◌, ◌+◌, ◌-◌, ◌==◌, ℕ, Bool, true, false, not, List, [], ◌∷◌, length, Option, Some, None}
use Rattle.std.proofs.Common.{refl, nat_lt}
use Rattle.std.specs.Prelude.{if◌then◌else◌, ◌&&◌}
use Rattle.soup_packets.specs.declared.packet.Packet.{Packet}
use Rattle.soup_session.specs.declared.port_state.PortState.TheVariants.{Down}
use Rattle.soup_session.specs.declared.said.Said.{Said}
use Rattle.soup_session.specs.declared.said.Said.TheVariants.{Accepted, Rejected, Sequenced, Nothing, End, Strange}
use Rattle.soup_session.specs.States.{is_down, is_logging_in, is_up, is_open}
use Rattle.soup_session.specs.Reading.{said_of}
use Rattle.soup_session.specs.Delivered.{Arrival, delivered}
use Rattle.soup_session.specs.Table as table
use Rattle.soup_session.specs.Table.{LoginTerms, PortCall, OnUp, OnPacket, OnGone, OnTick, Send, PortStanding}
use Rattle.soup_session.specs.Table.{PortAnswer, wanted, standing, answer, answer_in}
use Rattle.soup_session.specs.Calls.{and_payload}
use Rattle.gate_law.specs.Sessions.{sends}
use Rattle.gate_law.proofs.Parts.{called}

-- ---- a packet

abbrev Brings : List (List ℕ) → PortAnswer → Type 0
Brings earlier a = delivered a.after.arrived ≡ and_payload a.payload earlier

brings-if : (b : Bool) (earlier : List (List ℕ)) (x y : PortAnswer) → Brings earlier x → Brings earlier y
    → Brings earlier (if b then x else y)
brings-if true earlier x y p q = p
brings-if false earlier x y p q = q

module _ (x : PortStanding) where
  brings-arrives : (payload : List ℕ) → Brings (delivered x.arrived) (table.arrives x payload)
  brings-arrives payload = by_test (x.number == length (delivered x.arrived) + 1)
    where
      by_test : (b : Bool) → (if b then (payload ∷ delivered x.arrived) else delivered x.arrived)
          ≡ and_payload (if b then Some payload else None) (delivered x.arrived)
      by_test true = refl
      by_test false = refl

  brings-logs_in : (session : List ℕ) (number : Option ℕ)
      → Brings (delivered x.arrived) (table.logs_in x session number)
  brings-logs_in session None = refl
  brings-logs_in session (Some n) =
      brings-if (n == 0) _ _ _ refl (brings-if (table.is_other session x.session) _ _ _ refl
      (brings-if (nat_lt (wanted x) n) _ _ _ refl refl))

  brings-said : (payload : List ℕ) (said : Said) → Brings (delivered x.arrived) (table.on_said x payload said)
  brings-said payload (Accepted session number) =
      brings-if (is_logging_in x.state) _ _ _ (brings-logs_in session number) refl
  brings-said payload Rejected = brings-if (is_logging_in x.state) _ _ _ refl refl
  brings-said payload Sequenced = brings-if (is_up x.state) _ _ _ (brings-arrives payload) refl
  brings-said payload Nothing = refl
  brings-said payload End = refl
  brings-said payload Strange = refl

-- a packet adds the payload that is delivered with it, if there is one
pub packet-brings : (terms : LoginTerms) (before : List PortCall) (packet : Packet) (at : ℕ)
    → delivered (answer terms before (OnPacket packet at)).after.arrived
    ≡ and_payload (answer terms before (OnPacket packet at)).payload (delivered (standing terms before).arrived)
packet-brings terms before packet at =
    brings-if (is_open (standing terms before).state) _ _ _
    (brings-said (table.heard_now (table.passed at (standing terms before))) packet.payload (said_of packet)) refl

-- ---- any other call brings nothing

arrived-if : (b : Bool) (arrived : List Arrival) (x y : PortAnswer) → x.after.arrived ≡ arrived
    → y.after.arrived ≡ arrived → (if b then x else y).after.arrived ≡ arrived
arrived-if true arrived x y p q = p
arrived-if false arrived x y p q = q

pub up-brings : (terms : LoginTerms) (before : List PortCall) (at : ℕ)
    → (standing terms (OnUp at ∷ before)).arrived ≡ (standing terms before).arrived
up-brings terms before at = arrived-if (is_down (standing terms before).state) _ _ _ refl refl

pub tick-brings : (terms : LoginTerms) (before : List PortCall) (at : ℕ)
    → (standing terms (OnTick at ∷ before)).arrived ≡ (standing terms before).arrived
tick-brings terms before at = by_table (table.passed at (standing terms before))
  where
    by_table : (x : PortStanding) → (table.on_tick x).after.arrived ≡ x.arrived
    by_table x =
        arrived-if (not (is_open x.state)) _ _ _ refl (
        arrived-if (nat_lt 15_000 (x.now - x.heard)) _ _ _ refl (
        arrived-if (is_up x.state && nat_lt 1_000 (x.now - x.sent)) _ _ _ refl refl))

pub gone-brings : (terms : LoginTerms) (before : List PortCall)
    → (standing terms (OnGone ∷ before)).arrived ≡ (standing terms before).arrived
gone-brings terms before = by_open (standing terms before) (is_open (standing terms before).state)
  where
    by_open : (x : PortStanding) (w : Bool) → (if w then record x { state = Down } else x).arrived ≡ x.arrived
    by_open x true = refl
    by_open x false = refl

pub sends-bring : (terms : LoginTerms) (at : ℕ) (ms : List (List ℕ)) (before : List PortCall)
    → (standing terms (called (sends at ms) before)).arrived ≡ (standing terms before).arrived
sends-bring terms at [] before = refl
sends-bring terms at (m ∷ ms) before = sends-bring terms at ms (Send m at ∷ before)
