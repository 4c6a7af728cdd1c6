-- One event more, and what it keeps.
use Rattle.std.proofs.Common.{◌≡◌, ◌+◌, ◌<◌, ◌≤◌, ℕ, Bool, true, false, List, [], ◌∷◌, length, refl, sym, ap, ◌∙◌}
use Rattle.std.proofs.Common.{subst, arith, is_some}
use Rattle.std.specs.Prelude.{if◌then◌else◌, nat_lt}
use Rattle.std.proofs.lemmas.Bool.Decides.{nat_tests}
use Rattle.soup_session.specs.States.{is_open}
use Rattle.gate_sessions.specs.order_law.Headline.{Headline}
use Rattle.gate_law.specs.Settings.{Settings, terms}
use Rattle.gate_law.specs.Events.{Event, Batch, History, Turn, empty}
use Rattle.gate_law.specs.Lists.{Lists}
use Rattle.gate_law.specs.Sessions.{port_state}
use Rattle.gate_law.specs.After.{lists_after, is_within_day, lists, most_events, order_turns}
use Rattle.gate_law.specs.Due.{Gives}
use Rattle.gate_law.specs.Promises.{Asks}
use Rattle.gate_law.specs.Holds.{Holds, IsRun}
use Rattle.order_core.specs.order_machine.Runs.{NumbersLeft}
use Rattle.gate_core.specs.declared.parts.Parts.{Parts}
use Rattle.gate_core.specs.Core.{stepped}
use Rattle.gate_core.proofs.Fields.{CoreFields, FieldsAfter}
use Rattle.gate_core.specs.State.{AreAmong, HasNumbers, IsShaped, ArePartsOf}
use Rattle.gate_core.specs.Steps.{Grows, Ready, Stepped}

-- ---- what every step keeps

pub shaped-still : {S H : Type 0} (numbers packets : ℕ) (old new : Parts S H) → Grows numbers packets old new
    → IsShaped old → IsShaped new
shaped-still numbers packets old new grows shaped = record {
  client_ports = ap (λ (ports : List ℕ). length ports) same ∙ shaped.client_ports ∙ sym grows.clients;
  among = subst (λ (count : ℕ). AreAmong count new.client_ports.items) (sym grows.ports)
      (subst (λ (ports : List ℕ). AreAmong (length old.ports.lines.items) ports) (sym same) shaped.among);
  served = grows.served ∙ shaped.served ∙ sym grows.clients;
  few_clients = omega (arith, grows.clients, shaped.few_clients);
  few_ports = omega (arith, grows.ports, shaped.few_ports);
}
  where
    same : new.client_ports.items ≡ old.client_ports.items
    same = rw grows.client_ports refl

pub numbers-still : {S H : Type 0} (events : ℕ) (old new : Parts S H) → Grows 3 1 old new → HasNumbers events old
    → HasNumbers (events + 1) new
numbers-still events old new grows has = record {
  issued = omega (arith, grows.issued, has.issued);
  next = grows.next (events + 1) has.next;
}

-- below the limit there is room for one
pub still-few : (events : ℕ) → events ≤ most_events → (events ≡ most_events → ⊥) → events + 1 ≤ most_events
still-few events few other = by_test (nat_lt events most_events) refl
  where
    by_test : (w : Bool) → nat_lt events most_events ≡ w → events + 1 ≤ most_events
    by_test true e = grind (arith, nat_tests, e)
    by_test false e = absurd (other (grind (arith, nat_tests, e, few)))

-- ---- how many events were stepped

within-of : (h : History) (w : Bool) → is_within_day h ≡ w → (if w then length h else most_events) ≡ stepped h
within-of h w is = ap (λ (x : Bool). if x then length h else most_events) (sym is)

-- at the limit nothing more is stepped
at-limit : (h : History) → most_events ≡ stepped h → is_within_day h ≡ false
at-limit h is = by_test (is_within_day h) refl
  where
    by_test : (w : Bool) → is_within_day h ≡ w → w ≡ false
    by_test false e = refl
    by_test true e =
        let count : most_events ≡ length h = is ∙ sym (within-of h true e) in
        absurd (grind (arith, nat_tests, count, e))

-- and below it every event is
below-limit : (h : History) (events : ℕ) → events ≡ stepped h → (events ≡ most_events → ⊥) → is_within_day h ≡ true
below-limit h events is other = by_test (is_within_day h) refl
  where
    by_test : (w : Bool) → is_within_day h ≡ w → w ≡ true
    by_test true e = refl
    by_test false e = absurd (other (is ∙ sym (within-of h false e)))

past-count : (h : History) (t : Turn) → is_within_day h ≡ false → most_events ≡ stepped (t ∷ h)
past-count h t e =
    let past : is_within_day (t ∷ h) ≡ false = grind (arith, nat_tests, e) in
    within-of (t ∷ h) false past

more-count : (h : History) (t : Turn) (events : ℕ) → is_within_day h ≡ true → events ≡ stepped h
    → events + 1 ≡ stepped (t ∷ h)
more-count h t events e is = by_test (is_within_day (t ∷ h)) refl
  where
    count : events ≡ length h
    count = is ∙ sym (within-of h true e)

    by_test : (w : Bool) → is_within_day (t ∷ h) ≡ w → events + 1 ≡ stepped (t ∷ h)
    by_test true more = omega (arith, count) ∙ within-of (t ∷ h) true more
    by_test false more = (let last : events + 1 ≡ most_events = grind (arith, nat_tests, count, e, more) in last)
        ∙ within-of (t ∷ h) false more

-- ---- an event past the limit

abbrev pub PastKeeps : Type 0
PastKeeps = (s : Settings) (h : History) (e : Event) → is_within_day h ≡ false → Holds s h
    → Holds s (record { event = e; batch = empty } ∷ h)

pub past-step : {S H : Type 0} (s : Settings) (h : History) (c : CoreFields S H) (e : Event) (b : Batch) → PastKeeps
    → c.events ≡ most_events → b ≡ empty → FieldsAfter s h c
    → (let t : Turn = record { event = e; batch = b } in FieldsAfter s (t ∷ h) c × Holds s (t ∷ h))
past-step s h c e b keeps limit none is =
    let t : Turn = record { event = e; batch = b } in
    let past = at-limit h (sym limit ∙ is.count) in
    let holds : Holds s (t ∷ h) = subst (λ (x : Batch). Holds s (record { event = e; batch = x } ∷ h)) (sym none)
    (keeps s h e past is.holds) in (
      record {
        holds = holds;
        parts = subst (λ (w : Bool). ArePartsOf s (if w then lists_after s e b (lists s h) else lists s h) c.parts)
            (sym past) is.parts;
        count = limit ∙ past-count h t past;
      },
      holds,
    )

-- ---- an event that is stepped

abbrev pub StepKeeps : Type 0
StepKeeps = (s : Settings) (h : History) (e : Event) (b : Batch) → is_within_day h ≡ true → Holds s h
    → Gives s e b (lists s h) → Asks s e b (lists s h)
    → Headline (terms s) (order_turns s (record { event = e; batch = b } ∷ h))
    → Holds s (record { event = e; batch = b } ∷ h)

abbrev pub AreLinked : Type 0
AreLinked = (s : Settings) (h : History) → IsRun s h → (p : ℕ)
    → is_open (port_state s p ((lists s h).port_calls p)) ≡ is_some ((lists s h).port_link p)

abbrev pub AreFewTurns : Type 0
AreFewTurns = (s : Settings) (h : History) → length (order_turns s h) ≤ length h

pub next-step : {S H : Type 0} (s : Settings) (h : History) (c new : CoreFields S H) (e : Event) (b : Batch) → StepKeeps
    → AreLinked → AreFewTurns → (c.events ≡ most_events → ⊥) → FieldsAfter s h c
    → ((v : Lists) → Ready s v c.parts → Stepped s e b v new.parts) → new.events ≡ c.events + 1
    → (let t : Turn = record { event = e; batch = b } in FieldsAfter s (t ∷ h) new × Holds s (t ∷ h))
next-step s h c new e b keeps linked few other is steps one_more =
    let t : Turn = record { event = e; batch = b } in
    let within = below-limit h c.events is.count other in
    let count : length h < most_events = grind (arith, nat_tests, within) in
    let turns : NumbersLeft (lists s h).turns = omega (arith, count, few s h) in
    let ready : Ready s (lists s h) c.parts = record { parts = is.parts; linked = linked s h is.holds.run; few = turns }
    in
    let step = steps (lists s h) ready in
    let headline = subst (λ (w : Bool). Headline (terms s)
    (if w then lists_after s e b (lists s h) else lists s h).turns) (sym within) (step.orders is.holds.orders) in
    let holds : Holds s (t ∷ h) = keeps s h e b within is.holds step.gives step.asks headline in (
      record {
        holds = holds;
        parts = subst (λ (w : Bool). ArePartsOf s (if w then lists_after s e b (lists s h) else lists s h) new.parts)
            (sym within) step.parts;
        count = one_more ∙ more-count h t c.events within is.count;
      },
      holds,
    )

-- ---- the first state, and what is known of every one

pub first-state : {S H : Type 0} (s : Settings) (c : CoreFields S H)
    → ((t : Settings) → Headline (terms t) [] → Holds t []) → ArePartsOf s (lists s []) c.parts → c.events ≡ 0
    → FieldsAfter s [] c
first-state s c first parts none = record { holds = first s tt; parts = parts; count = none }

pub holds-of : {S H : Type 0} (s : Settings) (h : History) (c : CoreFields S H) → FieldsAfter s h c → Holds s h
holds-of s h c is = is.holds
