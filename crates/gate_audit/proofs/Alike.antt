-- Two standings of a port's session that differ in moments alone give the same.
use Rattle.std.proofs.Common.{◌≡◌, ℕ, ◌+◌, Bool, true, false, List, ◌∷◌, Option, Some, None, refl, sym, ap, ◌∙◌, subst}
use Rattle.std.proofs.Common.{length}
use Rattle.std.specs.Prelude.{◌-◌, ◌&&◌, ◌==◌, nat_lt, if◌then◌else◌, ◌⊎◌}
use Rattle.std.proofs.Common.{inl, inr}
use Rattle.soup_packets.specs.declared.packet.Packet.{Packet}
use Rattle.gate_core.specs.soup_session.declared.port_fault.PortFault.{PortFault}
use Rattle.gate_core.specs.soup_session.declared.port_fault.PortFault.TheVariants.{StrangePacket, SequenceGap}
use Rattle.gate_core.specs.soup_session.declared.port_fault.PortFault.TheVariants.{OtherSession}
use Rattle.gate_core.specs.soup_session.declared.port_state.PortState.{PortState}
use Rattle.gate_core.specs.soup_session.declared.port_state.PortState.TheVariants.{Down, LoggingIn, Ended, Faulted}
use Rattle.gate_core.specs.soup_session.declared.said.Said.{Said}
use Rattle.gate_core.specs.soup_session.declared.said.Said.TheVariants.{Accepted, Rejected, Sequenced, Nothing, End}
use Rattle.gate_core.specs.soup_session.declared.said.Said.TheVariants.{Strange}
use Rattle.gate_core.specs.soup_session.States.{is_down, is_logging_in, is_open, is_up}
use Rattle.gate_core.specs.soup_session.Delivered.{Arrival, delivered}
use Rattle.gate_core.specs.soup_session.Reading.{said_of}
use Rattle.gate_core.specs.soup_session.Table.{PortAnswer, PortCall, Fail, OnGone, OnPacket, OnUp, Send, PortStanding}
use Rattle.gate_core.specs.soup_session.Table.{LoginTerms, OnTick, answer, answer_in, arrives, blank, closes, faults}
use Rattle.gate_core.specs.soup_session.Table.{heard_now, on_said, is_other, logs_in, on_up, passed, quiet_answer}
use Rattle.gate_core.specs.soup_session.Table.{says, standing, on_tick, wanted}

-- the same login and numbers
pub record SameNumbers (s x : PortStanding) : Type 0 where
  pub session : s.session ≡ x.session
  pub arrived : s.arrived ≡ x.arrived
  pub number : s.number ≡ x.number

-- and the same state
pub record IsAlike (s x : PortStanding) : Type 0 where
  pub state : s.state ≡ x.state
  pub numbers : SameNumbers s x

record IsAlikeAnswer (a b : PortAnswer) : Type 0 where
  after : IsAlike a.after b.after
  payload : a.payload ≡ b.payload

answer-if : (c : Bool) (a b x y : PortAnswer) → IsAlikeAnswer a b → IsAlikeAnswer x y
    → IsAlikeAnswer (if c then a else x) (if c then b else y)
answer-if true a b x y p q = p
answer-if false a b x y p q = q

if-same : (c d : Bool) (a b x y : PortAnswer) → c ≡ d → IsAlikeAnswer a b → IsAlikeAnswer x y
    → IsAlikeAnswer (if c then a else x) (if d then b else y)
if-same c d a b x y e p q = subst (λ (k : Bool). IsAlikeAnswer (if c then a else x) (if k then b else y)) e
    (answer-if c a b x y p q)

closes-alike : (state : PortState) (s x : PortStanding) → SameNumbers s x
    → IsAlikeAnswer (closes state s) (closes state x)
closes-alike state s x same = record {
  after =
      record { state = refl; numbers = record { session = same.session; arrived = same.arrived; number = same.number } };
  payload = refl;
}

quiet-alike : (s x : PortStanding) → IsAlike s x → IsAlikeAnswer (quiet_answer s) (quiet_answer x)
quiet-alike s x like = record { after = like; payload = refl }

wanted-same : (s x : PortStanding) → SameNumbers s x → wanted s ≡ wanted x
wanted-same s x same = ap (λ (arrivals : List Arrival). length (delivered arrivals) + 1) same.arrived

logs-alike : (s x : PortStanding) (session : List ℕ) (k : Option ℕ) → SameNumbers s x
    → IsAlikeAnswer (logs_in s session k) (logs_in x session k)
logs-alike s x session None same = closes-alike (Faulted StrangePacket) s x same
logs-alike s x session (Some k) same =
    answer-if (k == 0) _ _ _ _ (closes-alike (Faulted StrangePacket) s x same)
    (if-same (is_other session s.session) (is_other session x.session) _ _ _ _ (ap (is_other session) same.session)
    (closes-alike (Faulted OtherSession) s x same)
    (if-same (nat_lt (wanted s) k) (nat_lt (wanted x) k) _ _ _ _ (ap (λ w. nat_lt w k) (wanted-same s x same))
    (closes-alike (Faulted SequenceGap) s x same)
    (record {
      after = record {
        state = refl;
        numbers =
            record { session = refl; arrived = same.arrived; number = refl };
      };
      payload = refl;
    })))

arrives-alike : (s x : PortStanding) (payload : List ℕ) → IsAlike s x
    → IsAlikeAnswer (arrives s payload) (arrives x payload)
arrives-alike s x payload like = record {
  after = record {
    state = like.state;
    numbers = record {
      session = like.numbers.session;
      arrived = ap (λ n. record { number = n; payload = payload } ∷ s.arrived) like.numbers.number
          ∙ ap (λ (arrivals : List Arrival). record { number = x.number; payload = payload } ∷ arrivals)
          like.numbers.arrived;
      number = ap (λ n. n + 1) like.numbers.number;
    };
  };
  payload = ap (λ n. if n == wanted s then Some payload else None) like.numbers.number
      ∙ ap (λ n. if x.number == n then Some payload else None) (wanted-same s x like.numbers);
}

hears-alike : (s x : PortStanding) (payload : List ℕ) (said : Said) → IsAlike s x
    → IsAlikeAnswer (on_said s payload said) (on_said x payload said)
hears-alike s x payload (Accepted session number) like =
    if-same (is_logging_in s.state) (is_logging_in x.state) _ _ _ _ (ap is_logging_in like.state)
    (logs-alike s x session number like.numbers) (closes-alike (Faulted StrangePacket) s x like.numbers)
hears-alike s x payload Rejected like =
    if-same (is_logging_in s.state) (is_logging_in x.state) _ _ _ _ (ap is_logging_in like.state)
    (closes-alike Down s x like.numbers) (closes-alike (Faulted StrangePacket) s x like.numbers)
hears-alike s x payload Sequenced like =
    if-same (is_up s.state) (is_up x.state) _ _ _ _ (ap is_up like.state) (arrives-alike s x payload like)
    (closes-alike (Faulted StrangePacket) s x like.numbers)
hears-alike s x payload Nothing like = quiet-alike s x like
hears-alike s x payload End like = closes-alike Ended s x like.numbers
hears-alike s x payload Strange like = closes-alike (Faulted StrangePacket) s x like.numbers

moments-alike : (s x : PortStanding) (at : ℕ) → IsAlike s x → IsAlike (heard_now (passed at s)) (heard_now (passed 0 x))
moments-alike s x at like = record {
  state = like.state;
  numbers =
      record { session = like.numbers.session; arrived = like.numbers.arrived; number = like.numbers.number };
}

-- a packet
packet-alike : (terms : LoginTerms) (s x : PortStanding) (packet : Packet) (at : ℕ) → IsAlike s x
    → IsAlikeAnswer (answer_in terms s (OnPacket packet at)) (answer_in terms x (OnPacket packet 0))
packet-alike terms s x packet at like =
    if-same (is_open s.state) (is_open x.state) _ _ _ _ (ap is_open like.state)
    (hears-alike (heard_now (passed at s)) (heard_now (passed 0 x)) packet.payload (said_of packet)
    (moments-alike s x at like))
    (quiet-alike (passed at s) (passed 0 x) (record {
      state = like.state;
      numbers = record {
        session = like.numbers.session;
        arrived =
            like.numbers.arrived;
        number = like.numbers.number;
      };
    }))

pub packet-after : (terms : LoginTerms) (calls others : List PortCall) (packet : Packet) (at : ℕ)
    → IsAlike (standing terms calls) (standing terms others)
    → IsAlike (standing terms (OnPacket packet at ∷ calls)) (standing terms (OnPacket packet 0 ∷ others))
packet-after terms calls others packet at like =
    (packet-alike terms (standing terms calls) (standing terms others) packet at like).after

pub packet-payload : (terms : LoginTerms) (calls others : List PortCall) (packet : Packet) (at : ℕ)
    → IsAlike (standing terms calls) (standing terms others)
    → (answer terms calls (OnPacket packet at)).payload ≡ (answer terms others (OnPacket packet 0)).payload
packet-payload terms calls others packet at like =
    (packet-alike terms (standing terms calls) (standing terms others) packet at like).payload

-- ---- a link comes, or goes

pub same-numbers : (s : PortStanding) → SameNumbers s s
same-numbers s = record { session = refl; arrived = refl; number = refl }

opens-numbers : (terms : LoginTerms) (s x : PortStanding) (at : ℕ) → SameNumbers s x
    → SameNumbers (answer_in terms s (OnUp at)).after x
opens-numbers terms s x at same = by_down (is_down s.state)
  where
    by_down : (b : Bool) → SameNumbers (if b then says
        (Rattle.gate_core.specs.soup_session.Writing.login
        (Rattle.gate_core.specs.soup_session.Writing.padded_right 6 terms.user)
        (Rattle.gate_core.specs.soup_session.Writing.padded_right 10 terms.password) s.session (wanted s))
        (record (Rattle.gate_core.specs.soup_session.Table.sent_now (heard_now (passed at s))) { state = LoggingIn })
        else closes s.state (passed at s)).after x
    by_down true = record { session = same.session; arrived = same.arrived; number = same.number }
    by_down false = record { session = same.session; arrived = same.arrived; number = same.number }

turned-numbers : (s x : PortStanding) → SameNumbers s x → SameNumbers x s
turned-numbers s x same = record { session = sym same.session; arrived = sym same.arrived; number = sym same.number }

pub up-numbers : (terms : LoginTerms) (calls others : List PortCall) (at : ℕ)
    → SameNumbers (standing terms calls) (standing terms others)
    → SameNumbers (standing terms (OnUp at ∷ calls)) (standing terms (OnUp 0 ∷ others))
up-numbers terms calls others at same =
    let one = opens-numbers terms (standing terms calls) (standing terms others) at same in
    turned-numbers (standing terms (OnUp 0 ∷ others)) (standing terms (OnUp at ∷ calls))
    (opens-numbers terms (standing terms others) (standing terms (OnUp at ∷ calls)) 0
    (turned-numbers (standing terms (OnUp at ∷ calls)) (standing terms others) one))

pub up-state : (terms : LoginTerms) (calls : List PortCall) (at : ℕ) (w : Bool)
    → is_down (standing terms calls).state ≡ w
    → (standing terms (OnUp at ∷ calls)).state ≡ (if w then LoggingIn else (standing terms calls).state)
up-state terms calls at true e = rw (e, standing) refl
up-state terms calls at false e = rw (e, standing) refl

pub goes-numbers : (terms : LoginTerms) (calls : List PortCall)
    → SameNumbers (standing terms calls) (standing terms (OnGone ∷ calls))
goes-numbers terms calls = by_open (is_open (standing terms calls).state)
  where
    by_open : (b : Bool) → SameNumbers (standing terms calls)
        (if b then record (standing terms calls) { state = Down } else standing terms calls)
    by_open true = record { session = refl; arrived = refl; number = refl }
    by_open false = same-numbers (standing terms calls)

pub goes-state : (terms : LoginTerms) (calls : List PortCall) (w : Bool) → is_open (standing terms calls).state ≡ w
    → (standing terms (OnGone ∷ calls)).state ≡ (if w then Down else (standing terms calls).state)
goes-state terms calls true e = rw (e, standing) refl
goes-state terms calls false e = rw (e, standing) refl

-- ---- what is sent, and time: the state stays, or the link is closed

pub record Fades (s x : PortStanding) : Type 0 where
  pub numbers : SameNumbers s x
  pub state : (x.state ≡ s.state) ⊎ ((is_open s.state ≡ true) × (x.state ≡ Down))

pub stays : (s : PortStanding) → Fades s s
stays s = record { numbers = same-numbers s; state = inl refl }

pub fails-numbers : (terms : LoginTerms) (calls : List PortCall) (n : PortFault)
    → SameNumbers (standing terms calls) (standing terms (Fail n ∷ calls))
fails-numbers terms calls n = record { session = refl; arrived = refl; number = refl }

pub ticks-fade : (terms : LoginTerms) (calls : List PortCall) (at : ℕ)
    → Fades (standing terms calls) (standing terms (OnTick at ∷ calls))
ticks-fade terms calls at = by_open (is_open s.state) refl
  where
    s : PortStanding
    s = standing terms calls

    now : PortStanding
    now = passed at s

    kept : Fades s (quiet_answer now).after
    kept = record { numbers = record { session = refl; arrived = refl; number = refl }; state = inl refl }

    by_silence : (b c : Bool) → is_open s.state ≡ true
        → Fades s (if b then closes Down now else if c then says Rattle.gate_core.specs.soup_session.Writing.heartbeat
        (Rattle.gate_core.specs.soup_session.Table.sent_now now) else quiet_answer now).after
    by_silence true c up = record {
      numbers = record { session = refl; arrived = refl; number = refl };
      state =
          inr (up, refl);
    }
    by_silence false true up = record {
      numbers = record { session = refl; arrived = refl; number = refl };
      state =
          inl refl;
    }
    by_silence false false up = kept

    by_open : (w : Bool) → is_open s.state ≡ w → Fades s (on_tick now).after
    by_open true up = rw up (by_silence (nat_lt 15_000 (now.now - now.heard))
        (is_up s.state && nat_lt 1_000 (now.now - now.sent)) up)
    by_open false shut = rw shut kept
