-- A desk at its start agrees.
use Rattle.std.proofs.Common.{◌≡◌, ◌≢◌, ℕ, suc, ◌<◌, ◌≤◌, ◌+◌, ◌-◌, ◌^◌, Bool, true, false, nat_lt, List, [], ◌∷◌}
use Rattle.std.proofs.Common.{length, map, Some, slice_get, get_or, refl, ap, sym, ◌∙◌, subst, arith, inl, inr, ◌⊎◌}
use Rattle.std.proofs.Common.{◌==◌}
use Rattle.std.specs.Prelude.{All, filter}
use Rattle.std.proofs.lemmas.Bool.Decides.{eqb_tells, leb_tells}
use Rattle.std.proofs.lemmas.List.{length-map}
use Rattle.std.proofs.lemmas.Option.{slice_get_within, get_or_from_slice_get}
use mathlib.Core.List.{IsPrefix}
use Rattle.gate_law.specs.Events.{LinkOut}
use Rattle.gate_events.specs.declared.source.Source.{Source}
use Rattle.gate_events.specs.declared.source.Source.TheVariants as sources
use Rattle.gate_events.specs.declared.event.Event.{Event}
use Rattle.gate_events.specs.Sources.{events_from, is_same_source}
use Rattle.desk_steps.specs.gate_journal.Kept.{Kept, lists_kept, nothing_kept}
use Rattle.desk_steps.specs.Recorded.{Recorded}
use Rattle.desk_rings.specs.Rings.{NamedInlet, NamedOutlet}
use Rattle.desk_rings.specs.CoreEnds.{InletConsumerState, OutletProducerState, consumer_name, producer_name}
use Rattle.desk_rings.proofs.Naming.{named}
use Rattle.desk_rings.specs.declared.rings.EventRing.{EventRing}
use Rattle.desk_rings.specs.declared.rings.OutputRing.{OutputRing}
use Rattle.desk_rings.specs.Made.{IsFreshConsumer, IsFreshProducer, inlet_name, outlet_name}
use Rattle.desk_steps.specs.desk_side.Places.{recipient_at, source_at}
use Rattle.desk_steps.specs.desk_side.Opened.{IsOpened}
use Rattle.desk_steps.specs.desk_side.Side.{SideState}
use Rattle.desk_steps.specs.Agreeing.{Agrees, AreApart, Follows}
use Rattle.desk.specs.Offered.{AreFor, Offered}

-- whose an inlet is
data Whose (c p k : ℕ) : Type 0 where
  ofClient : k < c → source_at c p k ≡ sources.Client (k + 1) → Whose c p k
  ofPort : c ≤ k → k < c + p → source_at c p k ≡ sources.Port ((k - c) + 1) → Whose c p k
  ofClock : c + p ≤ k → source_at c p k ≡ sources.Clock → Whose c p k

whose : (c p k : ℕ) → Whose c p k
whose c p k =
    elim (leb_tells (suc k) c) [
      | inl q ↦ ofClient (omega (arith, q.1)) (rw (q.0) refl)
      | inr q ↦ elim (leb_tells (suc k) (c + p)) [
        | inl r ↦ ofPort (omega (arith, q.1)) (omega (arith, r.1)) (rw (q.0, r.0) refl)
        | inr r ↦ ofClock (omega (arith, r.1)) (rw (q.0, r.0) refl)
      ]
    ]

not-same : (m n : ℕ) → m ≢ n → (m == n) ≡ false
not-same m n ne = elim (eqb_tells m n) [ inl q ↦ absurd (ne q.1) | inr q ↦ q.0 ]

apart-by : (c p j k : ℕ) → j < c + p + 1 → k < c + p + 1 → j ≢ k → Whose c p j → Whose c p k
    → is_same_source (source_at c p j) (source_at c p k) ≡ false
apart-by c p j k lj lk ne (ofClient a x) (ofClient b y) =
    rw (x, y) (not-same (j + 1) (k + 1) (λ e. ne (omega (arith, e))))
apart-by c p j k lj lk ne (ofClient a x) (ofPort b d y) = rw (x, y) refl
apart-by c p j k lj lk ne (ofClient a x) (ofClock b y) = rw (x, y) refl
apart-by c p j k lj lk ne (ofPort a d x) (ofClient b y) = rw (x, y) refl
apart-by c p j k lj lk ne (ofPort a d x) (ofPort b f y) =
    rw (x, y) (not-same ((j - c) + 1) ((k - c) + 1) (λ e. ne (omega (arith, e, a, b))))
apart-by c p j k lj lk ne (ofPort a d x) (ofClock b y) = rw (x, y) refl
apart-by c p j k lj lk ne (ofClock a x) (ofClient b y) = rw (x, y) refl
apart-by c p j k lj lk ne (ofClock a x) (ofPort b d y) = rw (x, y) refl
apart-by c p j k lj lk ne (ofClock a x) (ofClock b y) = absurd (ne (omega (arith, lj, lk, a, b)))

module _ (clients ports : ℕ) (recorded : Recorded) (side : SideState) (inlets : List EventRing)
    (outlets : List OutputRing)
    (o : IsOpened clients ports side inlets outlets) (none : recorded.kept ≡ nothing_kept)
    (few : clients + ports < 65_535) where
  -- the consumer that has an inlet's name
  consumer-of : (k : ℕ) (a : NamedInlet) → slice_get (map inlet_name inlets) k ≡ Some a
      → (x : InletConsumerState) × (slice_get side.consumers k ≡ Some x) × (x.name ≡ a)
  consumer-of k a at = named consumer_name side.consumers (map inlet_name inlets) k a (sym o.inlet_names) at

  pub source-of : (k : ℕ) (a : NamedInlet) → slice_get (map inlet_name inlets) k ≡ Some a
      → a.source ≡ source_at clients ports k
  source-of k a at =
      let x = consumer-of k a at in
      ap (λ (n : NamedInlet). n.source) (sym x.2)
      ∙ (o.arranged.sources k x.0 x.1 ∙ rw (o.client_count, o.port_count) refl)

  pub inlet-count : length (map inlet_name inlets) ≡ clients + ports + 1
  inlet-count =
      ap length o.inlet_names ∙ (length-map side.consumers consumer_name
      ∙ (o.arranged.consumer_count ∙ rw (o.client_count, o.port_count) refl))

  pub recipient-of : (d : ℕ) (w : NamedOutlet) → slice_get (map outlet_name outlets) d ≡ Some w
      → w.to ≡ recipient_at clients d
  recipient-of d w at =
      let x = named producer_name side.producers (map outlet_name outlets) d w (sym o.outlet_names) at in
      ap (λ (n : NamedOutlet). n.to) (sym x.2) ∙ (o.arranged.recipients d x.0 x.1 ∙ rw (o.client_count) refl)

  pub outlet-count : length (map outlet_name outlets) ≡ clients + ports
  outlet-count =
      ap length o.outlet_names ∙ (length-map side.producers producer_name
      ∙ (o.arranged.producer_count ∙ rw (o.client_count, o.port_count) refl))

  inside : (k : ℕ) (a : NamedInlet) → slice_get (map inlet_name inlets) k ≡ Some a → k < clients + ports + 1
  inside k a at = omega (arith, slice_get_within (map inlet_name inlets) k a at, inlet-count)

  are-apart : AreApart (map inlet_name inlets)
  are-apart j k a b here there ne =
      rw (source-of j a here, source-of k b there)
      (apart-by clients ports j k (inside j a here) (inside k b there) ne (whose clients ports j)
      (whose clients ports k))

  pub agrees-start : Agrees (map inlet_name inlets) (map outlet_name outlets)
      (record { recorded = recorded; side = side })
  agrees-start = record {
    consumer_names = sym o.inlet_names;
    producer_names = sym o.outlet_names;
    apart = are-apart;
    few = omega (arith, inlet-count, few);
    from_all = λ k a at.
        let fresh : a.gave ≡ [] = rw (get_or_from_slice_get side.consumers k a a at) at
        (o.consumers_fresh k a (slice_get_within side.consumers k a at)).0 in
        rw (none, fresh) refl;
    to_all = λ d w at.
        let fresh : w.sent ≡ [] = rw (get_or_from_slice_get side.producers d w w at) at
        (o.producers_fresh d w (slice_get_within side.producers d w at)).0 in
        rw (none, fresh) (([], refl), λ no. refl);
    named = rw none (λ i e at. absurd (cc at));
  }

  pub are-for : (offered : Offered) → offered.inlets ≡ map inlet_name inlets → offered.outlets ≡ map outlet_name outlets
      → AreFor clients ports offered
  are-for offered is os = record {
    inlet_count = ap length is ∙ inlet-count;
    sources = λ k a at. source-of k a (ap (λ (z : List NamedInlet). slice_get z k) (sym is) ∙ at);
    outlet_count = ap length os ∙ outlet-count;
    recipients = λ d w at. recipient-of d w (ap (λ (z : List NamedOutlet). slice_get z d) (sym os) ∙ at);
  }
