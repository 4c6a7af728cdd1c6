-- What the calls delivered, over all links, is what the arrivals deliver.
use Rattle.std.proofs.Common.{◌≡◌, ◌+◌, ◌-◌, ◌==◌, ℕ, Bool, true, false, not, List, [], ◌∷◌, length, Option, Some, None}
use Rattle.std.proofs.Common.{refl, ap, ◌∙◌, nat_lt}
use Rattle.std.specs.Prelude.{if◌then◌else◌, ◌&&◌}
use Rattle.soup_session.specs.declared.port_state.PortState.TheVariants.{Down}
use Rattle.soup_session.specs.declared.said.Said.{Said}
use Rattle.soup_session.specs.declared.said.Said.TheVariants.{Accepted, Rejected, Sequenced, Nothing, End, Strange}
use Rattle.soup_session.specs.declared.machine.Port.{Port}
use Rattle.soup_session.specs.States.{is_down, is_logging_in, is_up, is_open}
use Rattle.soup_session.specs.Reading.{said_of}
use Rattle.soup_session.specs.Delivered.{delivered}
use Rattle.soup_session.specs.Table as table
use Rattle.soup_session.specs.Table.{LoginTerms, PortCall, OnUp, OnPacket, OnGone, OnTick, Send, Fail, PortStanding}
use Rattle.soup_session.specs.Table.{PortAnswer, wanted, standing, answer, answer_in}
use Rattle.soup_session.specs.Calls.{CallsLeave, and_payload, payloads, DeliversEachOnce}
use Rattle.soup_session.proofs.Numbered.{delivered-first}
use Rattle.soup_session.proofs.Kept.{dense_left}

-- an answer's payload is just what it adds to what is given
abbrev Gives : List (List ℕ) → PortAnswer → Type 0
Gives earlier a = and_payload a.payload earlier ≡ delivered a.after.arrived

gives-if : (b : Bool) (earlier : List (List ℕ)) (x y : PortAnswer) → Gives earlier x → Gives earlier y
    → Gives earlier (if b then x else y)
gives-if true earlier x y p q = p
gives-if false earlier x y p q = q

module _ (s : PortStanding) where
  gives-arrives : (p : List ℕ) → Gives (delivered s.arrived) (table.arrives s p)
  gives-arrives p = by_test (s.number == length (delivered s.arrived) + 1)
    where
      by_test : (b : Bool) → and_payload (if b then Some p else None) (delivered s.arrived)
          ≡ (if b then (p ∷ delivered s.arrived) else delivered s.arrived)
      by_test true = refl
      by_test false = refl

  gives-logs_in : (session : List ℕ) (number : Option ℕ) → Gives (delivered s.arrived) (table.logs_in s session number)
  gives-logs_in session None = refl
  gives-logs_in session (Some n) = gives-if (n == 0) _ _ _ refl
      (gives-if (table.is_other session s.session) _ _ _ refl (gives-if (nat_lt (wanted s) n) _ _ _ refl refl))

  gives-said : (p : List ℕ) (said : Said) → Gives (delivered s.arrived) (table.on_said s p said)
  gives-said p (Accepted session number) = gives-if (is_logging_in s.state) _ _ _ (gives-logs_in session number) refl
  gives-said p Rejected = gives-if (is_logging_in s.state) _ _ _ refl refl
  gives-said p Sequenced = gives-if (is_up s.state) _ _ _ (gives-arrives p) refl
  gives-said p Nothing = refl
  gives-said p End = refl
  gives-said p Strange = refl

  gives-ticks : Gives (delivered s.arrived) (table.on_tick s)
  gives-ticks = gives-if (not (is_open s.state)) _ _ _ refl
      (gives-if (nat_lt 15_000 (s.now - s.heard)) _ _ _ refl
      (gives-if (is_up s.state && nat_lt 1_000 (s.now - s.sent)) _ _ _ refl refl))

  gives-goes : delivered s.arrived ≡ delivered (if is_open s.state then record s { state = Down } else s).arrived
  gives-goes = by_test (is_open s.state)
    where
      by_test : (b : Bool) → delivered s.arrived ≡ delivered (if b then record s { state = Down } else s).arrived
      by_test true = refl
      by_test false = refl

gives : (terms : LoginTerms) (s : PortStanding) (c : PortCall) → Gives (delivered s.arrived) (answer_in terms s c)
gives terms s (OnUp at) = gives-if (is_down s.state) _ _ _ refl refl
gives terms s (OnPacket packet at) = gives-if (is_open s.state) _ _ _
    (gives-said (table.heard_now (table.passed at s)) packet.payload (said_of packet)) refl
gives terms s OnGone = gives-goes s
gives terms s (OnTick at) = gives-ticks (table.passed at s)
gives terms s (Send m at) = refl
gives terms s (Fail n) = refl

-- the payloads of any calls are those given by their numbers
payloads_delivered : (terms : LoginTerms) (calls : List PortCall)
    → payloads terms calls ≡ delivered (standing terms calls).arrived
payloads_delivered terms [] = refl
payloads_delivered terms (c ∷ before) = ap (λ gs. and_payload (answer terms before c).payload gs)
    (payloads_delivered terms before) ∙ gives terms (standing terms before) c

pub delivers_each_once : (terms : LoginTerms) (calls : List PortCall) (p : Port) → CallsLeave terms calls p
    → DeliversEachOnce terms calls
delivers_each_once terms calls p l = λ i. rw (payloads_delivered terms calls)
    (delivered-first (standing terms calls).arrived (dense_left terms calls p l) i)
