-- Each run leaves, on each port, what the law says is outstanding: turn by turn, from no order on.
use Rattle.std.proofs.Common.{◌≡◌, ℕ, ◌<◌, ◌^◌, List, [], ◌∷◌, ◌++◌, length, refl, sym, ◌∙◌, subst, arith, None, Result}
use Rattle.order_law.specs.ouch_codec.declared.outbound.Outbound.{Outbound}
use Rattle.order_law.specs.ouch_codec.declared.refusal.DecodeRefusal.{DecodeRefusal}
use Rattle.fix_fields.specs.Field.{Message}
use Rattle.order_law.specs.Verdicts.{Port}
use Rattle.order_law.specs.History.{Came, OrderEvent, Heard, OrderHistory, Terms, OrderTurn, outstanding, terms_of}
use Rattle.order_machine.specs.Table.{TableState}
use Rattle.order_machine.specs.Machine.{client_step, market_step, table_step}
use Rattle.order_machine.specs.Runs.{Leads, TurnsLeave, TurnMeets}
use Rattle.order_machine.specs.Outstanding.{LeavesAsked, OnPort, asked_after, asked_on, on_port}
use Rattle.order_machine.proofs.Coming.{coming_turn}
use Rattle.order_machine.proofs.Hearing.{heard_turn}
use Rattle.order_machine.proofs.Answering.{market-Answers}
use Rattle.order_machine.proofs.Running.{Holding, Leaves-Holding, client-goes, same-turn}
use Rattle.order_machine.proofs.Unanswered.{Asking, market-rest}
use Rattle.order_machine.proofs.NewlyAsked.{came-Asking}

module _ (terms : List Terms) (before : OrderHistory) (s : TableState) (h : Holding terms before s) (short : length before < 2 ^ 59) (asked : List OnPort) (was : Asking terms before asked) where
  came : (client : ℕ) (m : Message) (port : Port) (sends : List (List ℕ))
      → Asking terms (coming_turn client m port (client_step s client m port).bodies sends ∷ before)
      (asked_after s (Came client m port) asked)
  came client m port sends =
      let goes = client-goes terms before s h.table short client m port sends in
      subst (λ (ts : List Terms). Asking terms (coming_turn client m port
      (client_step s client m port).bodies sends ∷ before)
      (asked ++ asked_on (terms_of ts client).port (client_step s client m port).asks)) (sym h.table.same_terms)
      (came-Asking terms before client m port (client_step s client m port).bodies sends
      (client_step s client m port).state goes.0.0 asked was (client_step s client m port).asks goes.0.2)

  heard : (port : ℕ) (m : Result Outbound DecodeRefusal)
      → Asking terms (heard_turn port m (market_step s port m).client (market_step s port m).bodies []
      (market_step s port m).fault ∷ before) (asked_after s (Heard port m) asked)
  heard port m = market-rest terms before s h.table port [] asked was m
      (market-Answers terms before s h.table short port m []).0

  next-Asking : (t : OrderTurn) (new : TableState) → Leads s t new
      → Asking terms (t ∷ before) (asked_after s t.event asked)
  next-Asking t new leads = by_event t.event refl leads.meets
    where
      by_event : (e : OrderEvent) → t.event ≡ e → TurnMeets s e (table_step s e) t new
          → Asking terms (t ∷ before) (asked_after s e asked)
      by_event (Came client m port) is_e meets =
          let goes = client-goes terms before s h.table short client m port t.sends in
          subst (λ (x : OrderTurn). Asking terms (x ∷ before) (asked_after s (Came client m port) asked))
          (same-turn terms before s h short t (Came client m port) client
          (client_step s client m port).bodies t.sends None is_e (meets.client ∙ goes.1) meets.bodies refl
          (meets.fault ∙ goes.2))
          (came client m port t.sends)
      by_event (Heard port m) is_e meets =
          subst (λ (x : OrderTurn). Asking terms (x ∷ before) (asked_after s (Heard port m) asked))
          (same-turn terms before s h short t (Heard port m) (market_step s port m).client
          (market_step s port m).bodies [] (market_step s port m).fault is_e meets.client meets.bodies meets.sends
          meets.fault)
          (heard port m)

-- ---- runs

-- one more turn
pub LeavesAsked-more : (terms : List Terms) (before : OrderHistory) (old : TableState) (was : List OnPort)
    (t : OrderTurn) (s : TableState) → LeavesAsked terms before old was → Leads old t s
    → LeavesAsked terms (t ∷ before) s (asked_after old t.event was)
unfolding LeavesAsked
LeavesAsked-more terms before old was t s leaves leads = (old, was, leaves, leads, refl)

-- a run leaves a list too
pub LeavesAsked-some : (terms : List Terms) (h : OrderHistory) (s : TableState) → TurnsLeave terms h s
    → (asked : List OnPort) × LeavesAsked terms h s asked
unfolding LeavesAsked TurnsLeave
LeavesAsked-some terms [] s leaves = ([], (leaves, refl))
LeavesAsked-some terms (t ∷ before) s leaves =
    let earlier : (asked : List OnPort) × LeavesAsked terms before leaves.0 asked =
    LeavesAsked-some terms before leaves.0 leaves.1 in
    (asked_after leaves.0 t.event earlier.0, (leaves.0, earlier.0, earlier.1, leaves.2, refl))

-- the table is left without the list too
pub LeavesAsked-Leaves : (terms : List Terms) (h : OrderHistory) (s : TableState) (asked : List OnPort)
    → LeavesAsked terms h s asked → TurnsLeave terms h s
unfolding LeavesAsked TurnsLeave
LeavesAsked-Leaves terms [] s asked leaves = leaves.0
LeavesAsked-Leaves terms (t ∷ before) s asked leaves =
    (leaves.0, LeavesAsked-Leaves terms before leaves.0 leaves.1 leaves.2, leaves.3)

pub LeavesAsked-Asking : (terms : List Terms) (h : OrderHistory) (s : TableState) (asked : List OnPort)
    → length h < 2 ^ 59 → LeavesAsked terms h s asked → Asking terms h asked
unfolding LeavesAsked
LeavesAsked-Asking terms [] s asked short leaves =
    subst (Asking terms []) (sym leaves.1) (record { placed = λ p. tt; same = λ p. refl })
LeavesAsked-Asking terms (t ∷ before) s asked short leaves =
    subst (Asking terms (t ∷ before)) (sym leaves.4)
    (next-Asking terms before leaves.0 (Leaves-Holding terms before leaves.0 (omega arith)
    (LeavesAsked-Leaves terms before leaves.0 leaves.1 leaves.2)) (omega arith) leaves.1
    (LeavesAsked-Asking terms before leaves.0 leaves.1 (omega arith) leaves.2) t s leaves.3)

pub outstanding-of : (terms : List Terms) (h : OrderHistory) (s : TableState) (asked : List OnPort) → length h < 2 ^ 59
    → LeavesAsked terms h s asked → (port : ℕ) → on_port port asked ≡ outstanding terms port h
outstanding-of terms h s asked short leaves = (LeavesAsked-Asking terms h s asked short leaves).same
