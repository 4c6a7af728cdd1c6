-- Each run of the machine has the headline: turn by turn, from the empty table on.
use Rattle.std.proofs.Common.{◌≡◌, ℕ, ◌<◌, ◌^◌, Bool, true, false, List, [], ◌∷◌, length, refl, sym, ap, ◌∙◌}
use Rattle.std.proofs.Common.{subst, arith, Option, Some, None, Result}
use Rattle.std.specs.Prelude.{if◌then◌else◌, option_map}
use Rattle.std.specs.Str.Parse.{digits_value}
use Rattle.order_law.specs.ouch_codec.declared.outbound.Outbound.{Outbound}
use Rattle.order_law.specs.ouch_codec.declared.refusal.DecodeRefusal.{DecodeRefusal}
use Rattle.fix_fields.specs.Field.{Message, text}
use Rattle.order_law.specs.Verdicts.{Accepted, Port, Refused, Verdict, first_row, rows_of_request}
use Rattle.order_law.specs.History.{Asked, Came, Entry, OrderEvent, Heard, OrderHistory, Terms, OrderTurn, accepted}
use Rattle.order_law.specs.History.{asks_of, entry_at, handled, is_new_order, issued, terms_of}
use Rattle.order_law.specs.Told.{reports_in}
use Rattle.order_law.specs.Headline.{Headline, Says, Sends, order_number}
use Rattle.order_machine.specs.OrderRecord.{OrderRecord}
use Rattle.order_machine.specs.Told.{IsToldTurn}
use Rattle.order_machine.specs.Table.{TableState, record_by_id, record_by_token, table_without_orders, has_used}
use Rattle.order_machine.specs.Machine.{GivenByEvent, accept_new, accept_on, accept_request, by_verdict, client_step}
use Rattle.order_machine.specs.Machine.{market_step, refuse_new, refuse_request, table_step, verdict_in}
use Rattle.order_machine.specs.Runs.{Leads, LeadsTo, TurnsLeave, TurnMeets, SendsAs}
use Rattle.order_machine.proofs.Coming.{coming_turn}
use Rattle.order_machine.proofs.Hearing.{heard_turn}
use Rattle.order_machine.proofs.Truth.{AllTrue, empty-Holds, turn-next}
use Rattle.order_machine.proofs.Linked.{IsTable, named-client, token-leads}
use Rattle.order_machine.proofs.Stepping.{Steps, accept_new-Steps, accept_on-Steps, refuse_new-Steps}
use Rattle.order_machine.proofs.Stepping.{refuse_request-Steps}
use Rattle.order_machine.proofs.Answering.{Answers, market-Answers}

-- what a history and the table that it leaves keep
pub record Holding (terms : List Terms) (h : OrderHistory) (s : TableState) : Type 0 where
  pub table : IsTable terms h s
  pub headline : Headline terms h

-- ---- a client's message

module _ (terms : List Terms) (before : OrderHistory) (s : TableState) (t : IsTable terms before s) (short : length before < 2 ^ 59) (client : ℕ) (m : Message) (port : Port) (sends : List (List ℕ)) where
  abbrev pub Goes : GivenByEvent → Type 0
  Goes g = Steps terms before s t short client m port sends g × (g.client ≡ client) × (g.fault ≡ None)

  -- a request on an order that isn't known is refused
  never : (used : Bool) (n : ℕ) → first_row (rows_of_request used None port n m) ≡ Accepted → ⊥
  never true n e = cc
  never false n e = cc

  on-order : verdict_in s client port m ≡ Accepted → is_new_order m ≡ false → Goes (accept_request s client m)
  on-order v old = by_found (record_by_id s client (text 41 m)) refl
    where
      by_found : (x : Option OrderRecord) → record_by_id s client (text 41 m) ≡ x → Goes (accept_on s client m x)
      by_found None e = absurd (never (has_used s.used client (text 11 m)) (length s.tokens) (rw (old, e) at v))
      by_found (Some o) e = (
        subst (λ (c : ℕ). record_by_id s c (text 41 m) ≡ Some o → verdict_in s c port m ≡ Accepted
            → Steps terms before s t short c m port sends (accept_on s c m (Some o)))
            (named-client terms before s t client (text 41 m) o e)
            (λ here w. accept_on-Steps terms before s t short m port sends o here w old) e v,
        refl,
        refl,
      )

  pub client-goes : Goes (client_step s client m port)
  client-goes = by_w (verdict_in s client port m) refl
    where
      accepted_by : (b : Bool) → is_new_order m ≡ b → verdict_in s client port m ≡ Accepted
          → Goes (if b then accept_new s client m else accept_request s client m)
      accepted_by true new v = (accept_new-Steps terms before s t short client m port sends v new, refl, refl)
      accepted_by false old v = on-order v old

      refused_by : (code : ℕ) (why : List ℕ) (b : Bool) → is_new_order m ≡ b
          → verdict_in s client port m ≡ Refused code why
          → Goes (if b then refuse_new s client m code why else refuse_request s client m code why)
      refused_by code why true new v = (
        refuse_new-Steps terms before s t short client m port sends code why v new,
        refl,
        refl,
      )
      refused_by code why false old v = (
        refuse_request-Steps terms before s t short client m port sends code why v old,
        refl,
        refl,
      )

      by_w : (w : Verdict) → verdict_in s client port m ≡ w → Goes (by_verdict s client m w)
      by_w Accepted v = accepted_by (is_new_order m) refl v
      by_w (Refused code why) v = refused_by code why (is_new_order m) refl v

option-twice : {A B C : Type 0} (f : A → B) (g : B → C) (x : Option A)
    → option_map g (option_map f x) ≡ option_map (λ a. g (f a)) x
option-twice f g None = refl
option-twice f g (Some a) = refl

-- tokens lead where the lists say
pub leads-to : (terms : List Terms) (h : OrderHistory) (s : TableState) (t : IsTable terms h s) (port : ℕ)
    → LeadsTo s port (order_number terms port (accepted terms h))
leads-to terms h s t port token =
    ap (option_map (λ (e : Entry). digits_value 10 e.order)) (sym (token-leads terms h s t port token))
    ∙ option-twice (λ (o : OrderRecord). o.new) (λ (e : Entry). digits_value 10 e.order) (record_by_token s port token)

-- ---- a turn

module _ (terms : List Terms) (before : OrderHistory) (s : TableState) (h : Holding terms before s) (short : length before < 2 ^ 59) where
  abbrev tb : IsTable terms before s
  tb = h.table

  reports_small : reports_in before < 10 ^ 64
  reports_small = omega (arith, h.table.few)

  orders-then : (t : OrderTurn) → IsToldTurn terms t before → AllTrue terms t before
  orders-then t is_told = (turn-next terms t before h.table.held short reports_small is_told).1

  came : (client : ℕ) (m : Message) (port : Port) (sends : List (List ℕ))
      → SendsAs s (Came client m port) (client_step s client m port) sends
      → Holding terms (coming_turn client m port (client_step s client m port).bodies sends ∷ before)
      (client_step s client m port).state
  came client m port sends said = record {
    table = goes.0.0;
    headline = (
      record {
        tells = goes.0.1;
        answers = record { sends = sends_so; fault = refl };
        orders = orders-then turn (record { tells = goes.0.1; fault = refl });
      },
      h.headline,
    );
  }
    where
      goes : Steps terms before s tb short client m port sends (client_step s client m port)
          × ((client_step s client m port).client ≡ client) × ((client_step s client m port).fault ≡ None)
      goes = client-goes terms before s tb short client m port sends

      turn : OrderTurn
      turn = coming_turn client m port (client_step s client m port).bodies sends

      home : ℕ
      home = (terms_of terms client).port

      order_of : List ℕ → Option ℕ
      order_of = order_number terms (terms_of terms client).port
          (accepted terms (coming_turn client m port (client_step s client m port).bodies sends ∷ before))

      sends_so : Sends port (Says (terms_of terms client).standing
          (order_number terms (terms_of terms client).port
          (accepted terms (coming_turn client m port (client_step s client m port).bodies sends ∷ before))))
          (asks_of terms (terms_of terms client).port (entry_at terms (Came client m port) before)
          (accepted terms before) (issued client before) (handled (terms_of terms client).port before)) sends
      sends_so =
          subst (λ (asked : List Asked). Sends port
          (Says (terms_of terms client).standing (order_number terms (terms_of terms client).port
          (accepted terms (coming_turn client m port (client_step s client m port).bodies sends ∷ before)))) asked
          sends) goes.0.2
          (subst (λ (ts : List Terms). Sends port (Says (terms_of ts client).standing
          (order_number terms (terms_of terms client).port
          (accepted terms (coming_turn client m port (client_step s client m port).bodies sends ∷ before))))
          (client_step s client m port).asks sends) tb.same_terms
          (said (order_number terms (terms_of terms client).port
          (accepted terms (coming_turn client m port (client_step s client m port).bodies sends ∷ before)))
          (subst (λ (ts : List Terms). LeadsTo (client_step s client m port).state (terms_of ts client).port
          (order_number terms (terms_of terms client).port
          (accepted terms (coming_turn client m port (client_step s client m port).bodies sends ∷ before))))
          (sym tb.same_terms)
          (leads-to terms (coming_turn client m port (client_step s client m port).bodies sends ∷ before)
          (client_step s client m port).state goes.0.0 (terms_of terms client).port))))

  heard : (port : ℕ) (m : Result Outbound DecodeRefusal)
      → Holding terms (heard_turn port m (market_step s port m).client (market_step s port m).bodies []
      (market_step s port m).fault ∷ before) (market_step s port m).state
  heard port m = record {
    table = answers.0;
    headline = (
      record {
        tells = answers.1;
        answers = record { sends = refl; fault = answers.2 };
        orders = orders-then (heard_turn port m (market_step s port m).client (market_step s port m).bodies []
            (market_step s port m).fault) (record { tells = answers.1; fault = answers.2 });
      },
      h.headline,
    );
  }
    where
      answers : Answers terms before s tb short port m [] (market_step s port m)
      answers = market-Answers terms before s tb short port m []

  -- a turn by its parts
  pub same-turn : (t : OrderTurn) (e : OrderEvent) (client : ℕ) (bodies : List Message) (sends : List (List ℕ))
      (fault : Option ℕ) → t.event ≡ e → t.client ≡ client → t.bodies ≡ bodies → t.sends ≡ sends → t.fault ≡ fault
      → record { event = e; client = client; bodies = bodies; sends = sends; fault = fault } ≡ t
  same-turn t e client bodies sends fault is_e is_client is_bodies is_sends is_fault =
      rw (sym is_e, sym is_client, sym is_bodies, sym is_sends, sym is_fault) refl

  pub next-Holding : (t : OrderTurn) (new : TableState) → Leads s t new → Holding terms (t ∷ before) new
  next-Holding t new leads = by_event t.event refl leads.meets
    where
      by_event : (e : OrderEvent) → t.event ≡ e → TurnMeets s e (table_step s e) t new → Holding terms (t ∷ before) new
      by_event (Came client m port) is_e meets =
          let goes = client-goes terms before s tb short client m port t.sends in
          subst (Holding terms (t ∷ before)) (sym meets.state)
          (subst (λ (x : OrderTurn). Holding terms (x ∷ before) (client_step s client m port).state)
          (same-turn t (Came client m port) client (client_step s client m port).bodies t.sends None is_e
          (meets.client ∙ goes.1) meets.bodies refl (meets.fault ∙ goes.2))
          (came client m port t.sends meets.sends))
      by_event (Heard port m) is_e meets =
          subst (Holding terms (t ∷ before)) (sym meets.state)
          (subst (λ (x : OrderTurn). Holding terms (x ∷ before) (market_step s port m).state)
          (same-turn t (Heard port m) (market_step s port m).client (market_step s port m).bodies []
          (market_step s port m).fault is_e meets.client meets.bodies meets.sends meets.fault)
          (heard port m))

-- ---- runs

empty-Holding : (terms : List Terms) → Holding terms [] (table_without_orders terms)
empty-Holding terms = record {
  table = record {
    same_terms = refl;
    held = empty-Holds terms;
    listed = refl;
    fit = tt;
    distinct = tt;
    tokens = refl;
    replaces = tt;
    used = λ c id. refl;
    order_ids = refl;
    exec_ids = refl;
    few = omega arith;
    is_told = tt;
  };
  headline = tt;
}

pub Leaves-Holding : (terms : List Terms) (h : OrderHistory) (s : TableState) → length h < 2 ^ 59 → TurnsLeave terms h s
    → Holding terms h s
unfolding TurnsLeave
Leaves-Holding terms [] s short leaves = subst (Holding terms []) (sym leaves) (empty-Holding terms)
Leaves-Holding terms (t ∷ before) s short leaves =
    next-Holding terms before leaves.0 (Leaves-Holding terms before leaves.0 (omega arith) leaves.1)
    (omega arith) t s leaves.2

-- the table that a run leaves has the headline of all its turns
pub headline-of : (terms : List Terms) (h : OrderHistory) (s : TableState) → length h < 2 ^ 59 → TurnsLeave terms h s
    → Headline terms h
headline-of terms h s short leaves = (Leaves-Holding terms h s short leaves).headline
