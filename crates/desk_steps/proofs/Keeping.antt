-- Looks and drops keep what a desk keeps.
use Rattle.std.proofs.Common.{◌≡◌, ℕ, ◌++◌, true, false, List, [], ◌∷◌, length, Some, slice_get, refl, ap, sym, ◌∙◌}
use Rattle.std.proofs.Common.{subst}
use Rattle.std.specs.Prelude.{filter}
use Rattle.std.proofs.lemmas.List.{append-nil}
use Rattle.std.proofs.lemmas.List.Elements.{filter-append}
use mathlib.Core.List.{IsPrefix}
use Rattle.gate_journal.specs.gate_law.Events.{LinkOut}
use Rattle.gate_events.specs.declared.event.Event.{Event}
use Rattle.gate_events.specs.declared.source.Source.{Source}
use Rattle.gate_events.specs.Sources.{events_from, is_from}
use Rattle.gate_journal.specs.Kept.{lists_kept}
use Rattle.desk_steps.specs.Recorded.{Recorded}
use Rattle.desk_side.specs.desk_rings.Rings.{NamedInlet, NamedOutlet}
use Rattle.desk_side.specs.desk_rings.CoreEnds.{InletConsumerState, ConsumerGave, ConsumerLooked, OutletProducerState}
use Rattle.desk_side.specs.desk_rings.CoreEnds.{ProducerLooked, ProducersLooked}
use Rattle.desk_side.specs.desk_rings.CoreEnds.{consumer_name, producer_name}
use Rattle.desk_side.proofs.desk_rings.Places.{get-same}
use Rattle.desk_side.specs.Side.{ChangesAt, SideState}
use Rattle.desk_steps.specs.Agreeing.{Agrees, AreNamed, DeskState, Follows}
use Rattle.desk_steps.specs.Turning.{Drops, Looks}
use Rattle.desk_side.proofs.Moves.{come-to, each-change, each-same}

-- a consumer that gave nothing more of its own
abbrev pub SameOwn : InletConsumerState → InletConsumerState → Type 0
SameOwn a b = (b.name ≡ a.name) × (events_from a.name.source b.gave ≡ events_from a.name.source a.gave)

-- a producer by which nothing more went
abbrev pub SameProducer : OutletProducerState → OutletProducerState → Type 0
SameProducer w v = (v.name ≡ w.name) × (v.sent ≡ w.sent) × (v.overflowed ≡ w.overflowed)

pub own-stays : (a : InletConsumerState) → SameOwn a a
own-stays a = (refl, refl)

pub producer-stays : (w : OutletProducerState) → SameProducer w w
producer-stays w = (refl, refl, refl)

follows-same : (w v : OutletProducerState) (lists : List (List LinkOut)) → SameProducer w v → Follows w lists
    → Follows v lists
follows-same w v lists same f = (
  subst (λ (z : List (List LinkOut)). IsPrefix z lists) (sym same.1) f.0,
  λ no. same.1
      ∙ f.1 (sym same.2 ∙ no),
)

from-kept : (r : Recorded) (a b : InletConsumerState) → SameOwn a b
    → events_from a.name.source r.kept.events ≡ events_from a.name.source a.gave
    → events_from b.name.source r.kept.events ≡ events_from b.name.source b.gave
from-kept r a b same is =
    subst (λ (n : NamedInlet). events_from n.source r.kept.events ≡ events_from n.source b.gave) (sym same.0)
    (is ∙ sym same.1)

to-kept : (r : Recorded) (w v : OutletProducerState) → SameProducer w v → Follows w (lists_kept w.name.to r.kept)
    → Follows v (lists_kept v.name.to r.kept)
to-kept r w v same f =
    subst (λ (n : NamedOutlet). Follows v (lists_kept n.to r.kept)) (sym same.0)
    (follows-same w v (lists_kept w.name.to r.kept) same f)

pub agrees-kept : (inlets : List NamedInlet) (outlets : List NamedOutlet) (s t : DeskState) → Agrees inlets outlets s
    → t.recorded ≡ s.recorded
    → length t.side.consumers ≡ length s.side.consumers
    → ((k : ℕ) (a : InletConsumerState) → slice_get s.side.consumers k ≡ Some a
    → (b : InletConsumerState) × (slice_get t.side.consumers k ≡ Some b) × SameOwn a b)
    → length t.side.producers ≡ length s.side.producers
    → ((d : ℕ) (w : OutletProducerState) → slice_get s.side.producers d ≡ Some w
    → (v : OutletProducerState) × (slice_get t.side.producers d ≡ Some v) × SameProducer w v)
    → Agrees inlets outlets t
agrees-kept inlets outlets s t h recorded consumers own producers stay = record {
  consumer_names = each-same consumer_name s.side.consumers t.side.consumers consumers
      (λ k a at. let r = own k a at in (r.0, r.1, r.2.0))
      ∙ h.consumer_names;
  producer_names = each-same producer_name s.side.producers t.side.producers producers
      (λ d w at. let r = stay d w at in (r.0, r.1, r.2.0))
      ∙ h.producer_names;
  apart = h.apart;
  few = h.few;
  from_all = λ k b at.
      let a = come-to SameOwn s.side.consumers t.side.consumers consumers own k b at in
      subst (λ (r : Recorded). events_from b.name.source r.kept.events ≡ events_from b.name.source b.gave)
      (sym recorded)
      (from-kept s.recorded a.0 b a.2 (h.from_all k a.0 a.1));
  to_all = λ d v at.
      let w = come-to SameProducer s.side.producers t.side.producers producers stay d v at in
      subst (λ (r : Recorded). Follows v (lists_kept v.name.to r.kept)) (sym recorded)
      (to-kept s.recorded w.0 v w.2 (h.to_all d w.0 w.1));
  named = subst (λ (r : Recorded). AreNamed inlets r.kept.events) (sym recorded) h.named;
}

looked-own : (a b : InletConsumerState) → ConsumerLooked a b → SameOwn a b
looked-own a b l = (l.0, ap (events_from a.name.source) l.1)

looked-producer : (w v : OutletProducerState) → ProducerLooked w v → SameProducer w v
looked-producer w v l = (l.0, l.1, l.2)

pub producer-looks : (old new : List OutletProducerState) → ProducersLooked old new
    → (d : ℕ) (w : OutletProducerState) → slice_get old d ≡ Some w
    → (v : OutletProducerState) × (slice_get new d ≡ Some v) × SameProducer w v
producer-looks old new l d w at = let r = l.each d w at in (r.0, r.1, looked-producer w r.0 r.2)

pub looks-agree : (inlets : List NamedInlet) (outlets : List NamedOutlet) (k : ℕ) (s t : DeskState)
    → Agrees inlets outlets s → Looks k s t → Agrees inlets outlets t
looks-agree inlets outlets k s t h l =
    agrees-kept inlets outlets s t h l.recorded
    l.consumers.count (each-change k ConsumerLooked SameOwn s.side.consumers t.side.consumers l.consumers
    (λ a b at p. looked-own a b p) own-stays)
    l.producers.count (producer-looks s.side.producers t.side.producers l.producers)

-- what was told may lie elsewhere now, and there may be more room
pub producers-agree : (inlets : List NamedInlet) (outlets : List NamedOutlet) (r : Recorded) (s t : SideState)
    → Agrees inlets outlets (record { recorded = r; side = s })
    → t.consumers ≡ s.consumers → length t.producers ≡ length s.producers
    → ((d : ℕ) (w : OutletProducerState) → slice_get s.producers d ≡ Some w
    → (v : OutletProducerState) × (slice_get t.producers d ≡ Some v) × SameProducer w v)
    → Agrees inlets outlets (record { recorded = r; side = t })
producers-agree inlets outlets r s t h consumers count producers =
    agrees-kept inlets outlets (record { recorded = r; side = s }) (record { recorded = r; side = t }) h refl
    (ap length consumers)
    (λ k a at. (a, ap (λ (z : List InletConsumerState). slice_get z k) consumers ∙ at, own-stays a)) count producers

-- an event of another source is none of its own
pub not-own : (source : Source) (e : Event) (events : List Event) → is_from source e ≡ false
    → events_from source (events ++ e ∷ []) ≡ events_from source events
not-own source e events isnt =
    let none : events_from source (e ∷ []) ≡ [] = rw isnt refl in
    filter-append (is_from source) events (e ∷ [])
    ∙ (ap (λ (z : List Event). events_from source events ++ z) none ∙ append-nil (events_from source events))

dropped-own : (e : Event) (a b : InletConsumerState) → is_from a.name.source e ≡ false → ConsumerGave e a b
    → SameOwn a b
dropped-own e a b isnt g = (g.0, ap (events_from a.name.source) g.1 ∙ not-own a.name.source e a.gave isnt)

pub drops-agree : (inlets : List NamedInlet) (outlets : List NamedOutlet) (k : ℕ) (s t : DeskState)
    → Agrees inlets outlets s → Drops k s t → Agrees inlets outlets t
drops-agree inlets outlets k s t h d =
    agrees-kept inlets outlets s t h d.recorded
    d.consumers.count
    (each-change k (ConsumerGave d.event) SameOwn s.side.consumers t.side.consumers d.consumers
    (λ a b at p. dropped-own d.event a b (subst (λ (z : InletConsumerState). is_from z.name.source d.event ≡ false)
    (get-same s.side.consumers k d.consumer a d.there at) d.foreign) p) own-stays)
    (ap length d.producers)
    (λ j w at. (w, ap (λ (z : List OutletProducerState). slice_get z j) d.producers ∙ at, producer-stays w))
