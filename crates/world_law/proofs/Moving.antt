-- The market's end of a session is as a run of the market's machine leaves it.
use Rattle.std.proofs.Common.{◌≡◌, ◌≤◌, ℕ, zero, suc, Bool, true, false, List, [], ◌∷◌, ◌++◌, length, map, drop}
use Rattle.std.proofs.Common.{reverse, refl, sym, ap, ◌∙◌, arith, Option, Some, None}
use Rattle.std.proofs.lemmas.List.{length-reverse, map-append, reverse-append}
use Rattle.std.specs.Prelude.{◌==◌, if◌then◌else◌}
use Rattle.ouch_codec.specs.declared.inbound.Inbound.{Inbound}
use Rattle.ouch_codec.specs.declared.outbound.Outbound.{Outbound}
use Rattle.soup_packets.specs.declared.packet.Packet.{Packet}
use Rattle.market_law.specs.declared.choice.Choice.{Choice}
use Rattle.market_law.specs.Machine.{Machine, Step, act, inbound}
use Rattle.market_law.specs.Run.{Move, Comes, Acts, moves, ran}
use Rattle.market_sim.specs.declared.event.SimEvent.{SimEvent}
use Rattle.market_sim.specs.declared.event.SimEvent.TheVariants as events
use Rattle.market_sim.specs.declared.link.SimLink.{SimLink}
use Rattle.market_sim.specs.declared.link.SimLink.TheVariants.{NoLink, Connected, LoggedIn}
use Rattle.market_sim.specs.Outbound.{outbound_bytes}
use Rattle.market_sim.specs.Sim.{SimState, SimStep, answers_login, booked, login_number, on_packet, opening_sim}
use Rattle.market_sim.specs.Sim.{sends_nothing, server_heartbeat, sim_step}
use Rattle.market_sim.proofs.Few.{IsFew, few-act, few-inbound}
use Rattle.world_law.specs.Moves.{IsAfterMoves, heard_on, moves_by}

-- ---- lists

drop-map : {A B : Type 0} (f : A → B) (n : ℕ) (xs : List A) → drop n (map f xs) ≡ map f (drop n xs)
drop-map f zero xs = refl
drop-map f (suc n) [] = refl
drop-map f (suc n) (x ∷ xs) = drop-map f n xs

drop-front : {A : Type 0} (xs ys : List A) (n : ℕ) → length xs ≡ n → drop n (xs ++ ys) ≡ ys
drop-front [] ys zero e = refl
drop-front [] ys (suc n) e = absurd (omega (arith, e))
drop-front (x ∷ xs) ys zero e = absurd (omega (arith, e))
drop-front (x ∷ xs) ys (suc n) e = drop-front xs ys n (omega (arith, e))

pub not-handled : (newer handled : List Outbound)
    → drop (length handled) (map outbound_bytes (reverse (newer ++ handled))) ≡ map outbound_bytes (reverse newer)
not-handled newer handled =
    drop-map outbound_bytes (length handled) (reverse (newer ++ handled))
    ∙ ap (λ xs. map outbound_bytes (drop (length handled) xs)) (reverse-append newer handled)
    ∙ ap (map outbound_bytes) (drop-front (reverse handled) (reverse newer) (length handled) (length-reverse handled))

-- one message at most is the same either way round
pub few-reversed : (xs : List Outbound) → length xs ≤ 1 → reverse xs ≡ xs
few-reversed [] few = refl
few-reversed (x ∷ []) few = refl
few-reversed (x ∷ y ∷ xs) few = absurd (omega (arith, few))

-- ---- events

-- a step of the machine
step-after : (ms : List Move) (s : SimState) (move : Move) (step : Step) → IsAfterMoves ms s
    → moves (ran ms).machine move ≡ step → IsFew step → IsAfterMoves (move ∷ ms) (booked s step).state
step-after ms s move step k is few = record {
  book = sym (ap (λ (x : Step). x.machine) is);
  kept =
      ap (λ xs. xs ++ map outbound_bytes step.says) k.kept
      ∙ sym (map-append outbound_bytes (reverse (ran ms).said) step.says)
      ∙ ap (map outbound_bytes) (ap (λ xs. reverse (ran ms).said ++ xs) (sym (few-reversed step.says few))
      ∙ sym (reverse-append step.says (ran ms).said))
      ∙ ap (λ (x : Step). map outbound_bytes (reverse (x.says ++ (ran ms).said))) (sym is);
}

-- a login, answered or not
login-after : (ms : List Move) (s : SimState) (number : Option ℕ) → IsAfterMoves ms s
    → IsAfterMoves ms (answers_login s number).state
login-after ms s None k = k
login-after ms s (Some number) k = record { book = k.book; kept = k.kept }

-- a packet that brings the machine nothing
module _ (ms : List Move) (s : SimState) (k : IsAfterMoves ms s) where
  quiet : (b c : Bool) (t : SimStep) → IsAfterMoves ms t.state
      → IsAfterMoves ms (if b then record { state = s; packets = server_heartbeat ∷ [] } else if c then t else
      sends_nothing s).state
  quiet true c t there = k
  quiet false true t there = there
  quiet false false t there = k

  connected : (b : Bool) (t : SimStep) → IsAfterMoves ms t.state
      → IsAfterMoves ms (if b then t else sends_nothing s).state
  connected true t there = there
  connected false t there = k

  logged-in : (packet : Packet) (read : Option Inbound) (choice : Choice) (b : Bool) → (packet.kind == 85) ≡ b
      → IsAfterMoves (heard_on LoggedIn packet read choice ++ ms) (on_packet s LoggedIn packet read choice).state
  logged-in packet (Some message) choice true is =
      rw is (step-after ms s (Comes message choice) (inbound s.book message choice) k
      (ap (λ (m : Machine). inbound m message choice) (sym k.book)) (few-inbound s.book message choice))
  logged-in packet (Some message) choice false is =
      rw is (quiet (packet.kind == 82) (packet.kind == 79) (sends_nothing (record s { link = NoLink }))
      (record { book = k.book; kept = k.kept }))
  logged-in packet None choice true is = rw is k
  logged-in packet None choice false is = rw is
      (quiet (packet.kind == 82) (packet.kind == 79) (sends_nothing (record s { link = NoLink }))
      (record { book = k.book; kept = k.kept }))

  on-link : (link : SimLink) (packet : Packet) (read : Option Inbound) (choice : Choice)
      → IsAfterMoves (heard_on link packet read choice ++ ms) (on_packet s link packet read choice).state
  on-link NoLink packet read choice = k
  on-link Connected packet read choice = connected (packet.kind == 76)
      (answers_login s (login_number (length s.kept) packet.payload))
      (login-after ms s (login_number (length s.kept) packet.payload) k)
  on-link LoggedIn packet read choice = logged-in packet read choice (packet.kind == 85) refl

  pub step-kept : (e : SimEvent) (read : Option Inbound)
      → IsAfterMoves (moves_by s e read ++ ms) (sim_step s e read).state
  step-kept events.Up read = record { book = k.book; kept = k.kept }
  step-kept (events.Packet packet choice) read = on-link s.link packet read choice
  step-kept (events.Act choice) read = step-after ms s (Acts choice) (act s.book choice) k
      (ap (λ (m : Machine). act m choice) (sym k.book)) (few-act s.book choice)
  step-kept events.Gone read = record { book = k.book; kept = k.kept }

pub at-first : IsAfterMoves [] opening_sim
at-first = record { book = refl; kept = refl }
