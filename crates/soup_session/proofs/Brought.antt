-- What is delivered at a packet is the packet's payload.
use Rattle.std.proofs.Common.{◌≡◌, ◌==◌, ℕ, Bool, true, false, List, Option, Some, None, refl, nat_lt}
use Rattle.std.specs.Prelude.{if◌then◌else◌, is_some}
use Rattle.soup_packets.specs.declared.packet.Packet.{Packet}
use Rattle.soup_session.specs.declared.port_turn.PortTurn.{PortTurn}
use Rattle.soup_session.specs.declared.said.Said.{Said}
use Rattle.soup_session.specs.declared.said.Said.TheVariants.{Accepted, Rejected, Sequenced, Nothing, End, Strange}
use Rattle.soup_session.specs.States.{is_logging_in, is_up, is_open}
use Rattle.soup_session.specs.Reading.{said_of}
use Rattle.soup_session.specs.Table as table
use Rattle.soup_session.specs.Table.{LoginTerms, PortCall, OnPacket, PortStanding, PortAnswer, wanted, standing, answer}
use Rattle.soup_session.specs.Calls.{DeliversOwn, IsAnswer}

-- it is of these bytes, if any
abbrev Brings : List ℕ → PortAnswer → Type 0
Brings p a = a.payload ≡ (if is_some a.payload then Some p else None)

brings-if : (p : List ℕ) (b : Bool) (x y : PortAnswer) → Brings p x → Brings p y → Brings p (if b then x else y)
brings-if p true x y of_x of_y = of_x
brings-if p false x y of_x of_y = of_y

module _ (s : PortStanding) (p : List ℕ) where
  brings-arrives : Brings p (table.arrives s p)
  brings-arrives = by_test (s.number == wanted s)
    where
      by_test : (b : Bool) → (if b then Some p else None)
          ≡ (if is_some (if b then Some p else None) then Some p else None)
      by_test true = refl
      by_test false = refl

  brings-logs_in : (session : List ℕ) (number : Option ℕ) → Brings p (table.logs_in s session number)
  brings-logs_in session None = refl
  brings-logs_in session (Some k) = brings-if p (k == 0) _ _ refl
      (brings-if p (table.is_other session s.session) _ _ refl (brings-if p (nat_lt (wanted s) k) _ _ refl refl))

  brings-said : (said : Said) → Brings p (table.on_said s p said)
  brings-said (Accepted session number) = brings-if p (is_logging_in s.state) _ _ (brings-logs_in session number) refl
  brings-said Rejected = brings-if p (is_logging_in s.state) _ _ refl refl
  brings-said Sequenced = brings-if p (is_up s.state) _ _ brings-arrives refl
  brings-said Nothing = refl
  brings-said End = refl
  brings-said Strange = refl

pub brings : (terms : LoginTerms) (before : List PortCall) (packet : Packet) (at : ℕ)
    → Brings packet.payload (answer terms before (OnPacket packet at))
brings terms before packet at =
    brings-if packet.payload (is_open (standing terms before).state) _ _
    (brings-said (table.heard_now (table.passed at (standing terms before))) packet.payload (said_of packet))
    refl

same-payload : (p payload : List ℕ) (o : Option (List ℕ)) → o ≡ (if is_some o then Some p else None) → o ≡ Some payload
    → payload ≡ p
same-payload p payload None is some = absurd (cc)
same-payload p payload (Some q) is some = cc

pub delivers-own : (terms : LoginTerms) (before : List PortCall) (packet : Packet) (at : ℕ)
    → DeliversOwn terms before packet at
delivers-own terms before packet at = λ payload is. same-payload packet.payload payload
    (answer terms before (OnPacket packet at)).payload (brings terms before packet at) is

-- what a turn of a packet delivers
pub delivered-is : (terms : LoginTerms) (before : List PortCall) (packet : Packet) (at : ℕ) (t : PortTurn)
    → IsAnswer (answer terms before (OnPacket packet at)) t
    → (answer terms before (OnPacket packet at)).payload ≡ (if t.is_delivered then Some packet.payload else None)
delivered-is terms before packet at t is = rw is.payload (brings terms before packet at)
