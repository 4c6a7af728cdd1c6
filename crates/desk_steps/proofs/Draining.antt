-- What is left in rings is stepped.
use Rattle.std.proofs.Common.{◌≡◌, ℕ, ◌<◌, ◌+◌, ◌++◌, List, [], ◌∷◌, length, Some, slice_get, refl, ap, sym, ◌∙◌}
use Rattle.std.proofs.Common.{subst, arith, inl, inr, ◌⊎◌, append_assoc}
use Rattle.std.proofs.lemmas.List.{append-nil}
use Rattle.std.proofs.lemmas.Bool.Decides.{eqb_tells}
use Rattle.std.proofs.lemmas.Option.{slice_get_within}
use mathlib.Core.List.{IsPrefix}
use Rattle.gate_journal.specs.gate_law.Events as law
use Rattle.gate_events.specs.declared.event.Event.{Event}
use Rattle.gate_events.specs.declared.source.Recipient.{Recipient}
use Rattle.gate_events.specs.declared.source.Source.{Source}
use Rattle.gate_events.specs.Sources.{events_from, lists_to}
use Rattle.gate_journal.specs.Cut.{IsMoreOf, with_records}
use Rattle.gate_journal.specs.Kept.{lists_kept}
use Rattle.journal_days.proofs.Cutting.{records-both}
use Rattle.desk_steps.specs.Recorded.{IsKeptStep, Recorded}
use Rattle.desk_side.specs.desk_rings.Rings.{Done, put_at, took_at, NamedInlet, NamedOutlet}
use Rattle.desk_side.specs.desk_rings.Ends.{inlet_of}
use Rattle.desk_side.specs.desk_rings.CoreEnds.{IsBorneOut, InletConsumerState, ConsumerGave, ConsumerLooked}
use Rattle.desk_side.specs.desk_rings.CoreEnds.{ConsumersLooked, OutletProducerState}
use Rattle.desk_side.specs.desk_rings.CoreEnds.{ProducersLooked}
use Rattle.desk_side.proofs.desk_rings.Places.{get-inside, get-same}
use Rattle.desk_side.specs.Side.{ChangesAt, SideState}
use Rattle.desk_steps.specs.Agreeing.{Agrees, DeskState}
use Rattle.desk_steps.specs.Settling.{AreDrained, AreSettled, AreBorneOut, HistoryGoesOn, IsSettled, KnowsNone}
use Rattle.desk_steps.specs.Settling.{ConsumerShrinks, Shrinks, ProducersHold}
use Rattle.desk_steps.specs.Turning.{Drops, StepsFirst}
use Rattle.desk_side.proofs.Moves.{come-to, each-change, prefix-more, prefix-same, prefix-trans}
use Rattle.desk_steps.proofs.Keeping.{SameOwn, agrees-kept, drops-agree, producer-looks}
use Rattle.desk_steps.proofs.OneMore.{lists-append, steps-agree}
use Rattle.desk_steps.proofs.Comparing.{empty-list, prefix-whole}
use Rattle.desk_steps.proofs.Holding.{drops-hold, steps-hold}

-- ---- the history

pub goes-nowhere : (r : Recorded) → HistoryGoesOn r r
goes-nowhere r = record {
  settings = refl;
  events = prefix-same r.kept.events;
  batches = prefix-same r.kept.batches;
  pages = record { records = []; same = refl };
}

pub more-twice : (a b c : List (List ℕ)) → IsMoreOf a b → IsMoreOf b c → IsMoreOf a c
more-twice a b c p q = record {
  records = p.records ++ q.records;
  same = q.same ∙ ap (λ (pages : List (List ℕ)). with_records pages q.records) p.same
      ∙ records-both a p.records q.records;
}

pub goes-further : (a b c : Recorded) → HistoryGoesOn a b → HistoryGoesOn b c → HistoryGoesOn a c
goes-further a b c p q = record {
  settings = q.settings ∙ p.settings;
  events = prefix-trans a.kept.events b.kept.events c.kept.events p.events q.events;
  batches = prefix-trans a.kept.batches b.kept.batches c.kept.batches p.batches q.batches;
  pages = more-twice a.kept.pages b.kept.pages c.kept.pages p.pages q.pages;
}

pub step-goes : (e : Event) (output : _) (a b : Recorded) → IsKeptStep e output a b → HistoryGoesOn a b
step-goes e output a b s = record {
  settings = s.settings;
  events = (e ∷ [], sym s.events);
  batches = (s.batch ∷ [], sym s.batches);
  pages = s.pages;
}

-- what is told grows with the batches
lists-grow : (to : Recipient) (a b : Recorded) (lists : _) → HistoryGoesOn a b → IsPrefix lists (lists_kept to a.kept)
    → IsPrefix lists (lists_kept to b.kept)
lists-grow to a b lists g p =
    let more = g.batches.0 in
    let grown : lists_kept to b.kept ≡ lists_kept to a.kept ++ lists_to to more =
    ap (λ (bs : List law.Batch). lists_to to bs) (sym g.batches.1) ∙ lists-append to a.kept.batches more in
    subst (λ z. IsPrefix lists z) (sym grown) (prefix-more lists (lists_kept to a.kept) (lists_to to more) p)

-- ---- the consumers

pub shrinks-none : (x : List InletConsumerState) → Shrinks x x
shrinks-none x = record { count = refl; each = λ k a at. (a, at, (refl, refl, omega arith)) }

pub shrinks-more : (x y z : List InletConsumerState) → Shrinks x y → Shrinks y z → Shrinks x z
shrinks-more x y z p q = record {
  count = q.count ∙ p.count;
  each = λ k a at. let b = p.each k a at in let c = q.each k b.0 b.1 in
      (c.0, c.1, (c.2.0 ∙ b.2.0, c.2.1 ∙ b.2.1, omega (arith, b.2.2, c.2.2)));
}

gave-shrinks : (e : Event) (a b : InletConsumerState) → ConsumerGave e a b → ConsumerShrinks a b
gave-shrinks e a b g = (
  g.0,
  ap (λ (z : List Event). z ++ b.known) g.1
      ∙ (append_assoc a.gave (e ∷ []) b.known ∙ ap (λ (z : List Event). a.gave ++ z) (sym g.2)),
  omega (arith, ap length g.2),
)

pub pop-shrinks : (k : ℕ) (e : Event) (x y : List InletConsumerState) → ChangesAt k (ConsumerGave e) x y → Shrinks x y
pop-shrinks k e x y ch = record {
  count = ch.count;
  each = each-change k (ConsumerGave e) ConsumerShrinks x y ch (λ a b at g. gave-shrinks e a b g)
      (λ a. (refl, refl, omega arith));
}

-- how much the consumer knows after it gave one
pub pop-less : (k n : ℕ) (e : Event) (x y : List InletConsumerState) → k < length x → ChangesAt k (ConsumerGave e) x y
    → ((a : InletConsumerState) → slice_get x k ≡ Some a → length a.known ≡ n + 1)
    → (b : InletConsumerState) → slice_get y k ≡ Some b → length b.known ≡ n
pop-less k n e x y inside ch knew b at =
    let a = get-inside x k inside in
    let r = ch.there a.0 a.1 in
    let same : r.0 ≡ b = get-same y k r.0 b r.1 at in
    let len : length r.0.known ≡ n = omega (arith, ap length r.2.2, knew a.0 a.1) in
    subst (λ (z : InletConsumerState). length z.known ≡ n) same len

pub none-stays : (k : ℕ) (x y : List InletConsumerState) → Shrinks x y → KnowsNone k x → KnowsNone k y
none-stays k x y s none b at =
    let a = come-to ConsumerShrinks x y s.count s.each k b at in
    omega (arith, a.2.2, none a.0 a.1)

-- the ring of an end that has finished is one of the desk's
pub borne-out-inside : (f : Done) (consumers : List InletConsumerState) (producers : List OutletProducerState) (k : ℕ)
    → IsBorneOut f consumers producers
    → inlet_of f ≡ Some k → k < length consumers
borne-out-inside (put_at j source events) consumers producers k borne_out is =
    let same : j ≡ k = cc is in
    subst (λ (z : ℕ). z < length consumers) same (slice_get_within consumers j borne_out.0 borne_out.1)
borne-out-inside (took_at d to lists) consumers producers k borne_out is = absurd (cc is)

-- the rings of the first so many are empty
abbrev pub FirstDrained : ℕ → List Done → List InletConsumerState → Type 0
FirstDrained n finished consumers = (i : ℕ) (f : Done) (k : ℕ) → i < n → slice_get finished i ≡ Some f
    → inlet_of f ≡ Some k
    → KnowsNone k consumers

pub one-drained : (i : ℕ) (finished : List Done) (g : Done) (old new : List InletConsumerState)
    → slice_get finished i ≡ Some g
    → Shrinks old new
    → ((k : ℕ) → inlet_of g ≡ Some k → KnowsNone k new) → FirstDrained i finished old
    → FirstDrained (i + 1) finished new
one-drained i finished g old new here shrinks none before j f k lt at is =
    elim (eqb_tells j i) [
      | inl q ↦ none k (ap inlet_of (get-same finished i g f here (rw (← q.1) at)) ∙ is)
      | inr q ↦ (let less : j < i = omega (arith, q.1) in none-stays k old new shrinks (before j f k less at is))
    ]

-- ---- the end

looked-own : (a b : InletConsumerState) → ConsumerLooked a b → SameOwn a b
looked-own a b l = (l.0, ap (events_from a.name.source) l.1)

-- looks at all rings keep what a desk keeps
pub compares-agree : (inlets : List NamedInlet) (outlets : List NamedOutlet) (s t : DeskState) → Agrees inlets outlets s
    → t.recorded ≡ s.recorded
    → ConsumersLooked s.side.consumers t.side.consumers → ProducersLooked s.side.producers t.side.producers
    → Agrees inlets outlets t
compares-agree inlets outlets s t h recorded consumers producers =
    agrees-kept inlets outlets s t h recorded consumers.count
    (λ k a at. let r = consumers.each k a at in (r.0, r.1, looked-own a r.0 r.2))
    producers.count (producer-looks s.side.producers t.side.producers producers)

-- what is settled once what finished inlets put is stepped
settled : (inlets : List NamedInlet) (outlets : List NamedOutlet) (s t : DeskState) (f : Done) → Agrees inlets outlets s
    → Agrees inlets outlets t
    → HistoryGoesOn s.recorded t.recorded → Shrinks s.side.consumers t.side.consumers
    → IsBorneOut f s.side.consumers s.side.producers → ((k : ℕ) → inlet_of f ≡ Some k → KnowsNone k t.side.consumers)
    → IsSettled f t.recorded.kept
settled inlets outlets s t (put_at k source events) before after on shrinks borne_out none =
    let a = borne_out.0 in
    let r = shrinks.each k a borne_out.1 in
    let b = r.0 in
    let src : b.name.source ≡ source = ap (λ (n : NamedInlet). n.source) r.2.0 ∙ borne_out.2 in
    let empty : b.known ≡ [] = empty-list b.known (none k refl b r.1) in
    let gave : b.gave ≡ events = sym (append-nil b.gave)
    ∙ (ap (λ (z : List Event). b.gave ++ z) (sym empty) ∙ (r.2.1 ∙ borne_out.3)) in
    let from : events_from source t.recorded.kept.events ≡ events_from source b.gave =
    subst (λ (z : Source). events_from z t.recorded.kept.events ≡ events_from z b.gave) src (after.from_all k b r.1) in
    from ∙ (ap (events_from source) gave ∙ borne_out.4)
settled inlets outlets s t (took_at d to lists) before after on shrinks borne_out none =
    let w = borne_out.0 in
    let follows : IsPrefix w.sent (lists_kept w.name.to s.recorded.kept) = (before.to_all d w borne_out.1).0 in
    let old : IsPrefix lists (lists_kept w.name.to s.recorded.kept) =
    prefix-trans lists w.sent (lists_kept w.name.to s.recorded.kept) borne_out.3 follows in
    let begun : IsPrefix lists (lists_kept to t.recorded.kept) =
    lists-grow to s.recorded t.recorded lists on
    (subst (λ (z : Recipient). IsPrefix lists (lists_kept z s.recorded.kept)) borne_out.2 old) in
    (begun, prefix-whole lists (lists_kept to t.recorded.kept) begun)

pub all-settled : (inlets : List NamedInlet) (outlets : List NamedOutlet) (s t : DeskState) (finished : List Done)
    → Agrees inlets outlets s → Agrees inlets outlets t
    → HistoryGoesOn s.recorded t.recorded → Shrinks s.side.consumers t.side.consumers
    → AreBorneOut finished s.side.consumers s.side.producers → AreDrained finished t.side.consumers
    → AreSettled finished t.recorded.kept
all-settled inlets outlets s t finished before after on shrinks borne_out drained i f at =
    settled inlets outlets s t f before after on shrinks (borne_out i f at) (λ k is. drained i f k at is)

-- ---- one event more

pub drained-agree : (inlets : List NamedInlet) (outlets : List NamedOutlet) (k : ℕ) (s t : DeskState)
    → (StepsFirst k s t ⊎ Drops k s t) → Agrees inlets outlets s → Agrees inlets outlets t
drained-agree inlets outlets k s t (inl x) h = steps-agree inlets outlets k s t h x
drained-agree inlets outlets k s t (inr x) h = drops-agree inlets outlets k s t h x

pub drained-goes : (k : ℕ) (s t : DeskState) → (StepsFirst k s t ⊎ Drops k s t) → HistoryGoesOn s.recorded t.recorded
drained-goes k s t (inl x) = step-goes x.event x.output s.recorded t.recorded x.step
drained-goes k s t (inr x) = subst (HistoryGoesOn s.recorded) (sym x.recorded) (goes-nowhere s.recorded)

pub drained-holds : (k : ℕ) (s t : DeskState) → (StepsFirst k s t ⊎ Drops k s t)
    → ProducersHold s.side.producers t.side.producers
drained-holds k s t (inl x) = steps-hold k s t x
drained-holds k s t (inr x) = drops-hold k s t x

pub drained-shrinks : (k : ℕ) (s t : DeskState) → (StepsFirst k s t ⊎ Drops k s t)
    → Shrinks s.side.consumers t.side.consumers
drained-shrinks k s t (inl x) = pop-shrinks k x.event s.side.consumers t.side.consumers x.consumers
drained-shrinks k s t (inr x) = pop-shrinks k x.event s.side.consumers t.side.consumers x.consumers

pub drained-less : (k n : ℕ) (s t : DeskState) → k < length s.side.consumers → (StepsFirst k s t ⊎ Drops k s t)
    → ((a : InletConsumerState) → slice_get s.side.consumers k ≡ Some a → length a.known ≡ n + 1)
    → (b : InletConsumerState) → slice_get t.side.consumers k ≡ Some b → length b.known ≡ n
drained-less k n s t inside (inl x) knew =
    pop-less k n x.event s.side.consumers t.side.consumers inside x.consumers knew
drained-less k n s t inside (inr x) knew =
    pop-less k n x.event s.side.consumers t.side.consumers inside x.consumers knew

-- what a call that was refused leaves
pub same-agree : (inlets : List NamedInlet) (outlets : List NamedOutlet) (r q : Recorded) (s t : SideState) → q ≡ r
    → t ≡ s
    → Agrees inlets outlets (record { recorded = r; side = s })
    → Agrees inlets outlets (record { recorded = q; side = t })
same-agree inlets outlets r q s t same like h =
    subst (λ (z : Recorded). Agrees inlets outlets (record { recorded = z; side = t })) (sym same)
    (subst (λ (z : SideState). Agrees inlets outlets (record { recorded = r; side = z })) (sym like) h)
