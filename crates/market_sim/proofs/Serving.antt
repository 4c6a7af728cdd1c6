-- On a link with a login every message from its number on was sent, after each move.
use Rattle.std.proofs.Common.{◌≡◌, ◌≤◌, ◌+◌, ◌-◌, ℕ, Bool, true, false, List, [], ◌∷◌, ◌++◌, length, map, take, drop}
use Rattle.std.proofs.Common.{Option, Some, None, refl, sym, ap, ◌∙◌, arith, length-append, leb-true, subst}
use Rattle.std.proofs.lemmas.List.{append-nil, drop-append-le}
use Rattle.std.specs.Prelude.{if◌then◌else◌, ◌==◌, nat_le, not}
use Rattle.ouch_codec.specs.declared.inbound.Inbound.{Inbound}
use Rattle.soup_packets.specs.declared.packet.Packet.{Packet}
use Rattle.market_book.specs.market_law.declared.choice.Choice.{Choice}
use Rattle.market_sim.specs.declared.event.SimEvent.TheVariants as events
use Rattle.market_sim.specs.declared.link.SimLink.{SimLink}
use Rattle.market_sim.specs.declared.link.SimLink.TheVariants.{NoLink, Connected, LoggedIn}
use Rattle.market_sim.specs.Sim.{SimState, hears, is_session_here, keeps_said, known_number, login_number}
use Rattle.market_sim.specs.Sim.{rejects_login, answers_login, on_packet, sequenced_packet, sent_on, sends_nothing}
use Rattle.market_sim.specs.Sim.{server_heartbeat}
use Rattle.market_sim.specs.Numbers.{number_asked}
use Rattle.market_sim.specs.Outbound.{outbound_bytes}
use Rattle.market_book.specs.market_law.Machine.{act, inbound}
use Rattle.market_sim.specs.Runs.{IsServed, SimMove, Comes, Says, SimRun, goes_on, login_by, payloads_in, sim_moved}
use Rattle.market_sim.specs.Runs.{sim_run}

sequenced-payloads : (xs : List (List ℕ)) → payloads_in (map sequenced_packet xs) ≡ xs
sequenced-payloads [] = refl
sequenced-payloads (x ∷ xs) = ap (λ ys. x ∷ ys) (sequenced-payloads xs)

-- more is kept, and goes out where a login was accepted
kept-served : (r : SimRun) (s : SimState) (payloads : List (List ℕ)) → s.link ≡ r.state.link → s.kept ≡ r.state.kept
    → IsServed r → IsServed (goes_on None r (keeps_said s payloads))
kept-served r s payloads link kept served = record {
  sent = λ on.
      let was = served.sent (sym link ∙ on) in
      let from = served.from (sym link ∙ on) in
      ap (λ (l : SimLink). r.sent ++ payloads_in (sent_on l payloads)) on
      ∙ ap (λ (ys : List (List ℕ)). r.sent ++ ys) (sequenced-payloads payloads)
      ∙ ap (λ (xs : List (List ℕ)). xs ++ payloads) was
      ∙ sym (drop-append-le (r.from - 1) r.state.kept payloads (omega (arith, from)))
      ∙ ap (λ (xs : List (List ℕ)). drop (r.from - 1) (xs ++ payloads)) (sym kept);
  from = λ on.
      let from = served.from (sym link ∙ on) in
      let more = length-append s.kept payloads in
      let same : length s.kept ≡ length r.state.kept = ap length kept in
      omega (arith, from, more, same);
}

-- nothing sequenced goes out, and nothing is kept
quiet-served : (r : SimRun) (ps : List Packet) → payloads_in ps ≡ [] → IsServed r
    → IsServed (goes_on None r (record { state = r.state; packets = ps }))
quiet-served r ps none served = record {
  sent = λ on. ap (λ (ys : List (List ℕ)). r.sent ++ ys) none ∙ append-nil r.sent ∙ served.sent on;
  from = served.from;
}

-- the link has no login
unlinked-served : (r : SimRun) (link : SimLink) (ps : List Packet) → (link ≡ LoggedIn → ⊥)
    → IsServed (goes_on None r (record { state = record r.state { link = link }; packets = ps }))
unlinked-served r link ps other = record { sent = λ on. absurd (other on); from = λ on. absurd (other on) }

no-connected : Connected ≡ LoggedIn → ⊥
no-connected e = cc

no-link : NoLink ≡ LoggedIn → ⊥
no-link e = cc

-- ---- a login

within-known : (count n : ℕ) (number : Option ℕ) → known_number count number ≡ Some n → n ≤ count + 1
within-known count n None e = absurd (cc)
within-known count n (Some k) e = by_test (nat_le k (count + 1)) refl e
  where
    by_test : (b : Bool) → nat_le k (count + 1) ≡ b → (if b then Some k else None) ≡ Some n → n ≤ count + 1
    by_test true is e = let same : k ≡ n = cc in subst (λ m. m ≤ count + 1) same (leb-true k (count + 1) is)
    by_test false is e = absurd (cc)

within-if : (count n : ℕ) (a b : Bool) (number : Option ℕ)
    → (if not a then None else if not b then None else known_number count number) ≡ Some n → n ≤ count + 1
within-if count n true true number e = within-known count n number e
within-if count n true false number e = absurd (cc)
within-if count n false b number e = absurd (cc)

number-within : (count n : ℕ) (payload : List ℕ) → login_number count payload ≡ Some n → n ≤ count + 1
number-within count n payload e = within-if count n (length payload == 46) (is_session_here (take 10 (drop 16 payload)))
    (number_asked (drop 26 payload)) e

module _ (r : SimRun) (served : IsServed r) (packet : Packet) (read : Option Inbound) (choice : Choice) where
  abbrev s : SimState
  s = r.state

  abbrev asks : Option ℕ
  asks = login_number (length s.kept) packet.payload

  by_login : (is_login : Bool) (number : Option ℕ) → asks ≡ number
      → IsServed (goes_on (if is_login then number else None) r
      (if is_login then answers_login s number else sends_nothing s))
  by_login true None e = quiet-served r (rejects_login ∷ []) refl served
  by_login true (Some n) e = record {
    sent = λ on. sequenced-payloads (drop (n - 1) s.kept);
    from = λ on. number-within (length s.kept) n packet.payload e;
  }
  by_login false number e = quiet-served r [] refl served

  by_read : (m : Option Inbound) → IsServed (goes_on None r (hears s m choice))
  by_read None = quiet-served r [] refl served
  by_read (Some message) = kept-served r (record s { book = (inbound s.book message choice).machine })
      (map outbound_bytes (inbound s.book message choice).says) refl refl served

  by_kind : (says asks_back leaves : Bool) → IsServed
      (goes_on None r (if says then hears s read choice else if asks_back then record
      { state = s; packets = server_heartbeat ∷ [] } else if leaves then sends_nothing
      (record s { link = NoLink }) else sends_nothing s))
  by_kind true b c = by_read read
  by_kind false true c = quiet-served r (server_heartbeat ∷ []) refl served
  by_kind false false true = unlinked-served r NoLink [] no-link
  by_kind false false false = quiet-served r [] refl served

  by_link : (l : SimLink) → IsServed (goes_on (login_by s l packet) r (on_packet s l packet read choice))
  by_link NoLink = quiet-served r [] refl served
  by_link Connected = by_login (packet.kind == 76) asks refl
  by_link LoggedIn = by_kind (packet.kind == 85) (packet.kind == 82) (packet.kind == 79)

move-served : (move : SimMove) (r : SimRun) → IsServed r → IsServed (sim_moved move r)
move-served (Comes events.Up read) r served = unlinked-served r Connected [] no-connected
move-served (Comes (events.Packet packet choice) read) r served = by_link r served packet read choice r.state.link
move-served (Comes (events.Act choice) read) r served =
    kept-served r (record r.state { book = (act r.state.book choice).machine })
    (map outbound_bytes (act r.state.book choice).says) refl refl served
move-served (Comes events.Gone read) r served = unlinked-served r NoLink [] no-link
move-served (Says payload) r served = kept-served r r.state (payload ∷ []) refl refl served

pub run-served : (moves : List SimMove) → IsServed (sim_run moves)
run-served [] = record { sent = λ on. absurd (no-link on); from = λ on. absurd (no-link on) }
run-served (move ∷ before) = move-served move (sim_run before) (run-served before)
