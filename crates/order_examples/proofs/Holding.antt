-- An exchange that is computed has the headline.
use Rattle.std.proofs.Common.{◌≡◌, ℕ, ◌<◌, ◌^◌, Bool, true, false, List, [], ◌∷◌, length, map, refl, sym, ◌∙◌, subst}
use Rattle.std.proofs.Common.{arith, codes, Option, Some, None}
use Rattle.std.specs.Prelude.{if◌then◌else◌}
use Rattle.order_law.specs.ouch_codec.ToMarket as said
use Rattle.order_law.specs.Asks.{Standing, ask_of_bytes}
use Rattle.order_law.specs.Verdicts.{Up, Down, Ended, Faulted}
use Rattle.order_law.specs.History.{Asked, Came, OrderEvent, Heard, OrderHistory, Said, SaysNew, SaysReplace}
use Rattle.order_law.specs.History.{SaysCancel, OrderTurn, accepted, asks_of, entry_at, handled, issued, terms_of}
use Rattle.order_law.specs.Told.{reports_in}
use Rattle.order_law.specs.Headline.{EachWith, HasTokens, Headline, Says, TurnOf, has_type, order_number}
use Rattle.order_machine.specs.Told.{IsTold, IsToldTurn, fault_of}
use Rattle.order_machine.proofs.Truth.{orders-true}
use Rattle.order_examples.specs.Transcript.{fixed_terms}
use Rattle.order_examples.specs.Computed.{IsLawful, due_in, judged_event, asked_of_bytes, sent_asks_by}

-- ---- what is sent says what is asked

said-is : (x y : Said) → ◌≡◌ {A = Option Said} (Some x) (Some y) → x ≡ y
said-is x y e = cc

said-tokens : (m : List ℕ) (x : Said) → asked_of_bytes m ≡ Some x → HasTokens x m
said-tokens m x e = by_o (has_type (codes "O") m) refl (has_type (codes "U") m) refl (has_type (codes "X") m) refl e
  where
    by_o : (o : Bool) → has_type (codes "O") m ≡ o → (u : Bool) → has_type (codes "U") m ≡ u → (c : Bool) → has_type (codes "X") m ≡ c
        → (if o then Some (SaysNew (said.token m)) else
        (if u then Some (SaysReplace (said.token m) (said.replacement_token m)) else
        (if c then Some (SaysCancel (said.token m)) else None))) ≡ Some x → HasTokens x m
    by_o true is_o u is_u c is_c e = subst (λ (y : Said). HasTokens y m) (said-is (SaysNew (said.token m)) x e)
        (is_o, refl)
    by_o false is_o true is_u c is_c e = subst (λ (y : Said). HasTokens y m)
        (said-is (SaysReplace (said.token m) (said.replacement_token m)) x e) (is_u, refl, refl)
    by_o false is_o false is_u true is_c e = subst (λ (y : Said). HasTokens y m)
        (said-is (SaysCancel (said.token m)) x e) (is_c, refl)
    by_o false is_o false is_u false is_c e = absurd (cc)

each-says : (standing : Standing) (order_of : List ℕ → Option ℕ) (asked : List Asked) (sends : List (List ℕ))
    → map (ask_of_bytes standing order_of) sends ≡ map (λ (a : Asked). a.ask) asked
    → map asked_of_bytes sends ≡ map (λ (a : Asked). Some a.said) asked → EachWith (Says standing order_of) asked sends
each-says standing order_of [] [] asks tokens = tt
each-says standing order_of [] (m ∷ sends) asks tokens = absurd (cc)
each-says standing order_of (a ∷ asked) [] asks tokens = absurd (cc)
each-says standing order_of (a ∷ asked) (m ∷ sends) asks tokens =
    let first : ask_of_bytes standing order_of m ≡ a.ask = cc in
    let rest : map (ask_of_bytes standing order_of) sends ≡ map (λ (a : Asked). a.ask) asked = cc in
    let token : asked_of_bytes m ≡ Some a.said = cc in
    let more : map asked_of_bytes sends ≡ map (λ (a : Asked). Some a.said) asked = cc in
    (record { tokens = said-tokens m a.said token; ask = first }, each-says standing order_of asked sends rest more)

sends-none : (sends : List (List ℕ)) → map asked_of_bytes sends ≡ [] → sends ≡ []
sends-none [] e = refl
sends-none (m ∷ sends) e = absurd (cc)

answers : (t : OrderTurn) (before : OrderHistory) (e : OrderEvent)
    → sent_asks_by e t before ≡ map (λ (a : Asked). a.ask) (due_in e before)
    → map asked_of_bytes t.sends ≡ map (λ (a : Asked). Some a.said) (due_in e before) → t.fault ≡ judged_event e before
    → TurnOf fixed_terms e t before
answers t before (Came client m Up) asks tokens fault = record {
  sends = each-says (terms_of fixed_terms client).standing
      (order_number fixed_terms (terms_of fixed_terms client).port (accepted fixed_terms (t ∷ before)))
      (asks_of fixed_terms (terms_of fixed_terms client).port (entry_at fixed_terms (Came client m Up) before)
      (accepted fixed_terms before) (issued client before) (handled (terms_of fixed_terms client).port before))
      t.sends asks tokens;
  fault = fault;
}
answers t before (Came client m Down) asks tokens fault = record { sends = sends-none t.sends tokens; fault = fault }
answers t before (Came client m Ended) asks tokens fault = record { sends = sends-none t.sends tokens; fault = fault }
answers t before (Came client m (Faulted n)) asks tokens fault =
    record { sends = sends-none t.sends tokens; fault = fault }
answers t before (Heard port m) asks tokens fault = record { sends = sends-none t.sends tokens; fault = fault }

-- ---- turn by turn

fault-same : (e : OrderEvent) (before : OrderHistory) → judged_event e before ≡ fault_of fixed_terms e before
fault-same (Came client m port) before = refl
fault-same (Heard port m) before = refl

rest-of : (t : OrderTurn) (before : OrderHistory) → IsLawful (t ∷ before) → IsLawful before
rest-of t before l = record {
  tells = (let e = l.tells in cc);
  faults = (let e = l.faults in cc);
  asks = (let e = l.asks in cc);
  tokens = (let e = l.tokens in cc);
}

turn-told : (t : OrderTurn) (before : OrderHistory) → IsLawful (t ∷ before) → IsToldTurn fixed_terms t before
turn-told t before l = record {
  tells = (let e = l.tells in cc);
  fault = (let e = l.faults in let first : judged_event t.event before ≡ t.fault = cc in sym first
      ∙ fault-same t.event before);
}

pub computed-told : (h : OrderHistory) → IsLawful h → IsTold fixed_terms h
computed-told [] l = tt
computed-told (t ∷ before) l = (turn-told t before l, computed-told before (rest-of t before l))

pub computed-holds : (h : OrderHistory) → length h < 2 ^ 59 → reports_in h < 10 ^ 64 → IsLawful h
    → Headline fixed_terms h
computed-holds [] short reports l = tt
computed-holds (t ∷ before) short reports l = (
  record {
    tells = (turn-told t before l).tells;
    answers = answers t before t.event (let e = l.asks in cc) (let e = l.tokens in cc)
        (let e = l.faults in let first : judged_event t.event before ≡ t.fault = cc in sym first);
    orders = orders-true fixed_terms t before short reports (computed-told (t ∷ before) l);
  },
  computed-holds before (omega arith) (omega arith) (rest-of t before l),
)
