-- What a turn comes to, put together of what its calls did.
use Rattle.std.proofs.Common.{◌≡◌, ℕ, zero, suc, ◌<◌, ◌+◌, true, false, List, [], ◌∷◌, Some, slice_get, length, refl}
use Rattle.std.proofs.Common.{ap, sym, ◌∙◌, subst, arith, inl, inr}
use Rattle.gate_journal.specs.gate_law.After.{lists}
use Rattle.gate_events.specs.declared.event.Event.{Event}
use Rattle.gate_events.specs.declared.source.Source.{Source}
use Rattle.gate_events.specs.Seen.{event_seen}
use Rattle.gate_events.specs.Sources.{is_from}
use Rattle.gate_core.specs.Targets.{client_for, port_for}
use Rattle.gate_journal.specs.Kept.{turns}
use Rattle.desk_side.specs.desk_rings.CoreEnds.{InletConsumerState, ConsumerGave, ConsumerLooked, OutletProducerState}
use Rattle.desk_side.specs.desk_rings.CoreEnds.{ProducersLooked}
use Rattle.desk_side.proofs.desk_rings.Naming.{producers-stay}
use Rattle.desk_side.proofs.desk_rings.Places.{get-inside, get-same}
use Rattle.desk_side.specs.declared.batch_output.BatchOutput.{BatchOutput}
use Rattle.desk_steps.specs.Reserved.{reserved}
use Rattle.desk_side.specs.Side.{AllKnowRoom, ChangesAt, HaveRoom, LacksRoom, SideState, OutputSent}
use Rattle.desk_side.proofs.Moves.{producers-twice}
use Rattle.desk_steps.specs.Recorded.{IsKeptStep, Recorded}
use Rattle.desk_steps.specs.Agreeing.{DeskState}
use Rattle.desk_steps.specs.Turning.{Does, Drops, HasRoom, Looks, SameCounts, StepsFirst, Waits, Went}
use Rattle.desk_steps.specs.declared.turned.Did.{Did}

-- an event is the first of this consumer's
abbrev pub IsFirst : Event → InletConsumerState → Type 0
IsFirst e a = slice_get a.known 0 ≡ Some e

-- whatever stands at this place
abbrev pub At : ℕ → List InletConsumerState → (InletConsumerState → Type 0) → Type 0
At k consumers P = (a : InletConsumerState) → slice_get consumers k ≡ Some a → P a

pub first-some : (e : Event) (a : InletConsumerState) → IsFirst e a → 0 < length a.known
first-some e a is = known-some e a.known is
  where
    known-some : (e : Event) (xs : List Event) → slice_get xs 0 ≡ Some e → 0 < length xs
    known-some e [] is = absurd (cc is)
    known-some e (x ∷ xs) is = omega arith

-- the first event at this place is of the inlet's source
abbrev pub Owns : ℕ → List InletConsumerState → Type 0
Owns k consumers = (a : InletConsumerState) → slice_get consumers k ≡ Some a
    → (f : Event) × (slice_get a.known 0 ≡ Some f) × (is_from a.name.source f ≡ true)

pub owns-same : (k : ℕ) (old new : List InletConsumerState) → new ≡ old → Owns k old → Owns k new
owns-same k old new same all = subst (λ (z : List InletConsumerState). Owns k z) (sym same) all

same-first : (f e : Event) (a : InletConsumerState) → IsFirst f a → IsFirst e a → f ≡ e
same-first f e a p q = cc (p, q)

-- two that are the first there are the same
pub firsts-same : (k : ℕ) (consumers : List InletConsumerState) (e f : Event) → k < length consumers
    → At k consumers (IsFirst e)
    → At k consumers (IsFirst f) → e ≡ f
firsts-same k consumers e f inside one two = let a = get-inside consumers k inside in
    same-first e f a.0 (one a.0 a.1) (two a.0 a.1)

-- consumers that are the same
pub at-same : (k : ℕ) (P : InletConsumerState → Type 0) (old new : List InletConsumerState) → new ≡ old → At k old P
    → At k new P
at-same k P old new same all = subst (λ (z : List InletConsumerState). At k z P) (sym same) all

-- the first event is of the inlet's source
pub own-first : (k : ℕ) (consumers : List InletConsumerState) (e : Event) (source : Source) → At k consumers (IsFirst e)
    → At k consumers (λ a. a.name.source ≡ source)
    → is_from source e ≡ true
    → (a : InletConsumerState) → slice_get consumers k ≡ Some a
    → (f : Event) × (slice_get a.known 0 ≡ Some f) × (is_from a.name.source f ≡ true)
own-first k consumers e source first is mine a at =
    (e, first a at, subst (λ (z : Source). is_from z e ≡ true) (sym (is a at)) mine)

-- a consumer gave its first event
pub gave-first : (a b : InletConsumerState) (popped e : Event) → ConsumerGave popped a b → IsFirst e a → popped ≡ e
gave-first a b popped e g first = cc (rw (g.2) at first)

pub popped-first : (k : ℕ) (popped e : Event) (old new : List InletConsumerState) → k < length old
    → At k old (IsFirst e)
    → ChangesAt k (ConsumerGave popped) old new
    → ChangesAt k (ConsumerGave e) old new
popped-first k popped e old new inside first changes =
    let a = get-inside old k inside in
    let r = changes.there a.0 a.1 in
    subst (λ (z : Event). ChangesAt k (ConsumerGave z) old new)
    (gave-first a.0 r.0 popped e r.2 (first a.0 a.1)) changes

-- the first event of a ring is stepped
pub stepped : (k : ℕ) (recorded after : Recorded) (one two three : SideState) (e popped : Event) (output : BatchOutput)
    → k < length one.consumers
    → ((a : InletConsumerState) → slice_get one.consumers k ≡ Some a
    → (f : Event) × (slice_get a.known 0 ≡ Some f) × (is_from a.name.source f ≡ true))
    → At k one.consumers (IsFirst e) → IsKeptStep e output recorded after
    → ChangesAt k (ConsumerGave popped) one.consumers two.consumers → two.producers ≡ one.producers → SameCounts one two
    → three.consumers ≡ two.consumers → OutputSent output two.producers three.producers → SameCounts two three
    → StepsFirst k (record { recorded = recorded; side = one }) (record { recorded = after; side = three })
stepped k recorded after one two three e popped output inside own first step pops producers counts consumers tells more
    =
    let a = get-inside one.consumers k inside in
    let f = own a.0 a.1 in
    let mine : f.0 ≡ e = same-first f.0 e a.0 f.1 (first a.0 a.1) in
    record {
      event = e;
      output = output;
      consumer = a.0;
      there = a.1;
      own = subst (λ (z : Event). is_from a.0.name.source z ≡ true) mine f.2;
      step = step;
      consumers = subst (λ (z : List InletConsumerState). ChangesAt k (ConsumerGave e) one.consumers z) (sym consumers)
          (popped-first k popped e one.consumers two.consumers inside first pops);
      producers = subst (λ (z : List OutletProducerState). OutputSent output z three.producers) producers tells;
      counts = (more.0 ∙ counts.0, more.1 ∙ counts.1);
    }

-- the first event of a ring is dropped
pub dropped : (k : ℕ) (recorded : Recorded) (one two : SideState) (e popped : Event) (source : Source)
    → k < length one.consumers
    → At k one.consumers (IsFirst e) → At k one.consumers (λ a. a.name.source ≡ source) → is_from source e ≡ false
    → ChangesAt k (ConsumerGave popped) one.consumers two.consumers → two.producers ≡ one.producers → SameCounts one two
    → Drops k (record { recorded = recorded; side = one }) (record { recorded = recorded; side = two })
dropped k recorded one two e popped source inside first is isnt pops producers counts =
    let a = get-inside one.consumers k inside in
    record {
      event = e;
      consumer = a.0;
      there = a.1;
      foreign = subst (λ (z : Source). is_from z e ≡ false) (sym (is a.0 a.1)) isnt;
      recorded = refl;
      consumers = popped-first k popped e one.consumers two.consumers inside first pops;
      producers = producers;
      counts = counts;
    }

-- the first event of a ring waits
pub waits : (k : ℕ) (recorded : Recorded) (side : SideState) (e : Event) (client port : _) (kept : ℕ)
    → k < length side.consumers
    → At k side.consumers (IsFirst e) → Owns k side.consumers
    → client ≡ client_for recorded.settings (event_seen e) (lists recorded.settings (turns recorded.kept))
    → port ≡ port_for recorded.settings (event_seen e) → kept ≡ reserved (event_seen e)
    → LacksRoom kept client port side.producers
    → Waits k (record { recorded = recorded; side = side })
waits k recorded side e client port kept inside first own clients ports frees held =
    let a = get-inside side.consumers k inside in
    let f = own a.0 a.1 in
    let mine : f.0 ≡ e = same-first f.0 e a.0 f.1 (first a.0 a.1) in
    record {
      event = e;
      consumer = a.0;
      there = a.1;
      first = first a.0 a.1;
      own = subst (λ (z : Event). is_from a.0.name.source z ≡ true) mine f.2;
      held = rw (← clients, ← ports, ← frees) held;
    }

-- where there is room everywhere there is for these
pub everywhere : (kept : ℕ) (client port : _) (producers : List OutletProducerState) → AllKnowRoom (kept + 1) producers
    → HaveRoom kept client port producers
everywhere kept client port producers all d w at aim =
    elim (all d w at) [
      | inl overflowed ↦ inl overflowed
      | inr free ↦ inr (omega (arith, free))
    ]

-- it has room
pub has-room : (k : ℕ) (recorded : Recorded) (side : SideState) (e : Event) (client port : _) (kept : ℕ)
    → k < length side.consumers
    → At k side.consumers (IsFirst e)
    → client ≡ client_for recorded.settings (event_seen e) (lists recorded.settings (turns recorded.kept))
    → port ≡ port_for recorded.settings (event_seen e) → kept ≡ reserved (event_seen e)
    → HaveRoom kept client port side.producers
    → HasRoom k (record { recorded = recorded; side = side })
has-room k recorded side e client port kept inside first clients ports frees room =
    let a = get-inside side.consumers k inside in
    record {
      event = e;
      consumer = a.0;
      there = a.1;
      first = first a.0 a.1;
      room = rw (← clients, ← ports, ← frees) room;
    }

-- a look into a ring
pub looked-in : (k : ℕ) (recorded : Recorded) (one two : SideState)
    → ChangesAt k ConsumerLooked one.consumers two.consumers
    → two.producers ≡ one.producers → SameCounts one two
    → Looks k (record { recorded = recorded; side = one }) (record { recorded = recorded; side = two })
looked-in k recorded one two consumers producers counts = record {
  recorded = refl;
  consumers = consumers;
  producers = subst (λ (z : List OutletProducerState). ProducersLooked one.producers z) (sym producers)
      (producers-stay one.producers);
  counts = counts;
}

-- and one for room
pub looked-out : (k : ℕ) (recorded : Recorded) (one two three : SideState)
    → Looks k (record { recorded = recorded; side = one }) (record { recorded = recorded; side = two })
    → three.consumers ≡ two.consumers → ProducersLooked two.producers three.producers → SameCounts two three
    → Looks k (record { recorded = recorded; side = one }) (record { recorded = recorded; side = three })
looked-out k recorded one two three looks consumers producers counts = record {
  recorded = refl;
  consumers = subst (λ (z : List InletConsumerState). ChangesAt k ConsumerLooked one.consumers z)
      (sym consumers) looks.consumers;
  producers = producers-twice one.producers two.producers three.producers looks.producers producers;
  counts = (counts.0 ∙ looks.counts.0, counts.1 ∙ looks.counts.1);
}

-- a turn more
pub went-more : (s m t : DeskState) (dids : List Did) (place : ℕ) (did : Did) → Went s dids m → length dids ≡ place
    → Does place did m t → Went s (did ∷ dids) t
went-more s m t dids place did went len does = (m, went, subst (λ (k : ℕ). Does k did m t) (sym len) does)
