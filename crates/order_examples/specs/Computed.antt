-- What an exchange that is written down has to be, as equations that can be computed: each turn tells what is told,
-- has the fault that is judged, and sends messages that ask what is asked.
use Rattle.std.specs.Prelude.{◌≡◌, ℕ, List, [], ◌∷◌, map, Option, Some, None, if◌then◌else◌}
use Rattle.std.specs.Prelude.{codes}
use Rattle.order_law.specs.ouch_codec.ToMarket as said
use Rattle.order_law.specs.Asks.{Ask, ask_of_bytes}
use Rattle.order_law.specs.Verdicts.{Up, Down, Ended, Faulted}
use Rattle.order_law.specs.History.{terms_of, OrderEvent, Came, Heard, OrderTurn, OrderHistory, Asked, Said, SaysNew}
use Rattle.order_law.specs.History.{SaysReplace, SaysCancel, issued, handled, accepted, entry_at, asks_of}
use Rattle.order_law.specs.Lawful.{judgement}
use Rattle.order_law.specs.Told.{Told, told}
use Rattle.order_law.specs.Headline.{has_type, order_number, said_in}
use Rattle.order_examples.specs.Transcript.{fixed_terms}

-- ---- what is told

-- by the law, each turn after those before it
abbrev pub told_by_law : OrderHistory → List Told
told_by_law [] = []
told_by_law (t ∷ before) = told fixed_terms t.event before ∷ told_by_law before

-- as it is written down
abbrev pub told_in : OrderHistory → List Told
told_in h = map said_in h

-- ---- faults

abbrev pub judged_event : OrderEvent → OrderHistory → Option ℕ
judged_event (Came client m port) before = None
judged_event (Heard port m) before = judgement fixed_terms port m before

abbrev pub faults_by_law : OrderHistory → List (Option ℕ)
faults_by_law [] = []
faults_by_law (t ∷ before) = judged_event t.event before ∷ faults_by_law before

abbrev pub faults_in : OrderHistory → List (Option ℕ)
faults_in h = map (λ (t : OrderTurn). t.fault) h

-- ---- asks

-- the type and tokens of a message to the market
abbrev pub asked_of_bytes : List ℕ → Option Said
asked_of_bytes m =
    if has_type (codes "O") m then Some (SaysNew (said.token m))
    else if has_type (codes "U") m then Some (SaysReplace (said.token m) (said.replacement_token m))
    else if has_type (codes "X") m then Some (SaysCancel (said.token m)) else None

abbrev pub sent_asks_by : OrderEvent → OrderTurn → OrderHistory → List (Option Ask)
sent_asks_by (Came client m port) t before =
    map (ask_of_bytes (terms_of fixed_terms client).standing
    (order_number fixed_terms (terms_of fixed_terms client).port (accepted fixed_terms (t ∷ before)))) t.sends
sent_asks_by (Heard port m) t before = []

abbrev pub sent_asks_in : OrderTurn → OrderHistory → List (Option Ask)
sent_asks_in t before = sent_asks_by t.event t before

-- what a turn has to ask at once
abbrev pub due_in : OrderEvent → OrderHistory → List Asked
due_in (Came client m Up) before =
    asks_of fixed_terms (terms_of fixed_terms client).port (entry_at fixed_terms (Came client m Up) before)
    (accepted fixed_terms before) (issued client before) (handled (terms_of fixed_terms client).port before)
due_in (Came client m Down) before = []
due_in (Came client m Ended) before = []
due_in (Came client m (Faulted n)) before = []
due_in (Heard port m) before = []

-- turn by turn: what the messages ask and which tokens they have, as they are sent and as they are due
abbrev pub sent_asks : OrderHistory → List (List (Option Ask))
sent_asks [] = []
sent_asks (t ∷ before) = sent_asks_in t before ∷ sent_asks before

abbrev pub due_asks : OrderHistory → List (List (Option Ask))
due_asks [] = []
due_asks (t ∷ before) = map (λ (a : Asked). a.ask) (due_in t.event before) ∷ due_asks before

abbrev pub sent_tokens : OrderHistory → List (List (Option Said))
sent_tokens h = map (λ (t : OrderTurn). map asked_of_bytes t.sends) h

abbrev pub due_tokens : OrderHistory → List (List (Option Said))
due_tokens [] = []
due_tokens (t ∷ before) = map (λ (a : Asked). Some a.said) (due_in t.event before) ∷ due_tokens before

-- ---- an exchange

pub record IsLawful (h : OrderHistory) : Type 0 where
  pub tells : told_by_law h ≡ told_in h
  pub faults : faults_by_law h ≡ faults_in h
  pub asks : sent_asks h ≡ due_asks h
  pub tokens : sent_tokens h ≡ due_tokens h
