-- The rings that were made stand in their places.
use Rattle.std.proofs.Common.{◌≡◌, ℕ, zero, suc, ◌+◌, ◌++◌, List, [], ◌∷◌, length, map, Some, slice_get, refl, ap, sym}
use Rattle.std.proofs.Common.{◌∙◌, subst}
use Rattle.std.specs.Prelude.{option_map}
use Rattle.std.proofs.lemmas.List.{length-map}
use Rattle.std.proofs.lemmas.Option.{slice_get-map}
use Rattle.gate_events.specs.declared.source.Source.{Source}
use Rattle.gate_events.specs.declared.source.Recipient.{Recipient}
use Rattle.desk_rings.specs.Rings.{NamedInlet, NamedOutlet}
use Rattle.desk_rings.specs.CoreEnds.{InletConsumerState, OutletProducerState, consumer_name}
use Rattle.desk_rings.specs.declared.rings.EventRing.{EventRing}
use Rattle.desk_rings.specs.declared.rings.OutputRing.{OutputRing}
use Rattle.desk_rings.specs.Made.{MadeEvents, MadeLists, inlet_name}
use Rattle.desk_side.specs.Places.{recipient_at, source_at}
use Rattle.desk_side.specs.Side.{IsArranged}
use Rattle.desk_side.proofs.Moves.{come-to}

-- what holds of each place holds with one more
pub each-and-one : {A : Type 0} (P : ℕ → A → Type 0) (xs : List A) (y : A)
    → ((k : ℕ) (x : A) → slice_get xs k ≡ Some x → P k x) → P (length xs) y
    → (k : ℕ) (x : A) → slice_get (xs ++ y ∷ []) k ≡ Some x → P k x
each-and-one {A} P [] y all here zero x at = subst (λ (z : A). P 0 z) (cc at) here
each-and-one P [] y all here (suc k) x at = absurd (cc at)
each-and-one P (z ∷ zs) y all here zero x at = all zero x at
each-and-one P (z ∷ zs) y all here (suc k) x at =
    each-and-one (λ j w. P (suc j) w) zs y (λ j w. all (suc j) w) here k x at

-- whose a ring is, seen from either side
same-sources : (rings : List EventRing) (consumers : List InletConsumerState)
    → map inlet_name rings ≡ map consumer_name consumers
    → map (λ (a : InletConsumerState). a.name.source) consumers ≡ map (λ (r : EventRing). r.source) rings
same-sources [] [] h = refl
same-sources [] (a ∷ consumers) h = absurd (cc h)
same-sources (r ∷ rings) [] h = absurd (cc h)
same-sources (r ∷ rings) (a ∷ consumers) h =
    let head : inlet_name r ≡ consumer_name a = cc h in
    let tail : map inlet_name rings ≡ map consumer_name consumers = cc h in
    let one : a.name.source ≡ r.source = ap (λ (n : NamedInlet). n.source) (sym head) in
    cc (one, same-sources rings consumers tail)

-- what stands at a place of such a list
of-each : {A B : Type 0} (f : A → B) (xs : List A) (ys : List B) (P : ℕ → B → Type 0) → map f xs ≡ ys
    → ((k : ℕ) (y : B) → slice_get ys k ≡ Some y → P k y)
    → (k : ℕ) (x : A) → slice_get xs k ≡ Some x → P k (f x)
of-each f xs ys P is each k x at =
    each k (f x) (ap (λ zs. slice_get zs k) (sym is) ∙ (slice_get-map f xs k ∙ ap (option_map f) at))

pub are-arranged : (clients ports : ℕ) (sources : List Source) (recipients : List Recipient) (inlets : List EventRing)
    (consumers : List InletConsumerState) (producers : List OutletProducerState) (outlets : List OutputRing)
    → length sources ≡ clients + ports + 1 → ((k : ℕ) (source : Source) → slice_get sources k ≡ Some source
    → source ≡ source_at clients ports k)
    → length recipients ≡ clients + ports → ((d : ℕ) (to : Recipient) → slice_get recipients d ≡ Some to
    → to ≡ recipient_at clients d)
    → MadeEvents sources inlets consumers → MadeLists recipients producers outlets
    → IsArranged (record { clients = clients; ports = ports; consumers = consumers; producers = producers })
are-arranged clients ports sources recipients inlets consumers producers outlets sn sat rn rat events lists =
    let own : map (λ (a : InletConsumerState). a.name.source) consumers ≡ sources =
    same-sources inlets consumers events.names
    ∙ events.sources_are in
    record {
      sources = of-each (λ (a : InletConsumerState). a.name.source) consumers sources
          (λ k source. source ≡ source_at clients ports k) own sat;
      consumer_count = sym (length-map consumers (λ (a : InletConsumerState). a.name.source)) ∙ (ap length own ∙ sn);
      recipients = of-each (λ (w : OutletProducerState). w.name.to) producers recipients
          (λ d to. to ≡ recipient_at clients d) lists.recipients_are rat;
      producer_count = sym (length-map producers (λ (w : OutletProducerState). w.name.to))
          ∙ (ap length lists.recipients_are ∙ rn);
    }

-- consumers that keep their names keep their places, and producers too
abbrev pub SameConsumer : InletConsumerState → InletConsumerState → Type 0
SameConsumer a b = b.name ≡ a.name

abbrev pub SameProducer : OutletProducerState → OutletProducerState → Type 0
SameProducer w v = v.name ≡ w.name

pub consumers-arranged : (clients ports : ℕ) (consumers new : List InletConsumerState)
    (producers : List OutletProducerState)
    → IsArranged (record { clients = clients; ports = ports; consumers = consumers; producers = producers })
    → length new ≡ length consumers
    → ((k : ℕ) (a : InletConsumerState) → slice_get consumers k ≡ Some a
    → (b : InletConsumerState) × (slice_get new k ≡ Some b) × SameConsumer a b)
    → IsArranged (record { clients = clients; ports = ports; consumers = new; producers = producers })
consumers-arranged clients ports consumers new producers h count each = record {
  sources = λ k b at. let a = come-to SameConsumer consumers new count each k b at in
      ap (λ (n : NamedInlet). n.source) a.2
      ∙ h.sources k a.0 a.1;
  consumer_count = count ∙ h.consumer_count;
  recipients = h.recipients;
  producer_count = h.producer_count;
}

pub producers-arranged : (clients ports : ℕ) (consumers : List InletConsumerState)
    (producers new : List OutletProducerState)
    → IsArranged (record { clients = clients; ports = ports; consumers = consumers; producers = producers })
    → length new ≡ length producers
    → ((d : ℕ) (w : OutletProducerState) → slice_get producers d ≡ Some w
    → (v : OutletProducerState) × (slice_get new d ≡ Some v) × SameProducer w v)
    → IsArranged (record { clients = clients; ports = ports; consumers = consumers; producers = new })
producers-arranged clients ports consumers producers new h count each = record {
  sources = h.sources;
  consumer_count = h.consumer_count;
  recipients = λ d v at. let w = come-to SameProducer producers new count each d v at in
      ap (λ (n : NamedOutlet). n.to) w.2
      ∙ h.recipients d w.0 w.1;
  producer_count = count ∙ h.producer_count;
}
