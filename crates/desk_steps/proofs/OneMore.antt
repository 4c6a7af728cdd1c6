-- A step keeps what a desk keeps, and so do turns and rounds.
use Rattle.std.proofs.Common.{◌≡◌, ◌≢◌, ℕ, zero, suc, ◌++◌, Bool, true, false, List, [], ◌∷◌, length, Some, slice_get}
use Rattle.std.proofs.Common.{refl, ap, sym, ◌∙◌, subst, inl, inr, ◌⊎◌, append_assoc, ◌==◌}
use Rattle.std.specs.Prelude.{option_map}
use Rattle.std.proofs.lemmas.List.{append-nil}
use Rattle.std.proofs.lemmas.List.Elements.{filter-append}
use Rattle.std.proofs.lemmas.Bool.Decides.{eqb_tells}
use Rattle.std.proofs.lemmas.Option.{slice_get-map}
use mathlib.Core.List.{IsPrefix}
use Rattle.gate_journal.specs.gate_law.Events as law
use Rattle.gate_journal.specs.gate_law.Events.{LinkOut}
use Rattle.gate_events.specs.declared.event.Event.{Event}
use Rattle.gate_events.specs.declared.source.Source.{Source}
use Rattle.gate_events.specs.declared.source.Source.TheVariants as sources
use Rattle.gate_events.specs.declared.source.Recipient.{Recipient}
use Rattle.gate_events.specs.declared.source.Recipient.TheVariants as recipients
use Rattle.gate_events.specs.Sources.{events_from, is_from, is_same_source, lists_to, source_of, output_to, unless_empty}
use Rattle.gate_journal.specs.Kept.{lists_kept}
use Rattle.desk_side.specs.desk_rings.Rings.{NamedInlet, NamedOutlet}
use Rattle.desk_side.specs.desk_rings.CoreEnds.{InletConsumerState, ConsumerGave, OutletProducerState, ProducerSent}
use Rattle.desk_side.specs.desk_rings.CoreEnds.{consumer_name, producer_name}
use Rattle.desk_side.proofs.desk_rings.Naming.{named}
use Rattle.desk_side.proofs.desk_rings.Places.{get-same}
use Rattle.desk_side.specs.declared.batch_output.BatchOutput.{BatchOutput}
use Rattle.desk_side.specs.BatchOutput.{IsOutputOf, list_for}
use Rattle.desk_steps.specs.Agreeing.{Agrees, AreNamed, DeskState, Follows}
use Rattle.desk_steps.specs.Turning.{Does, RoundIsRefused, Rounds, StepsFirst, Went}
use Rattle.desk_steps.specs.declared.turned.Turned.{Turned}
use Rattle.desk_steps.specs.declared.turned.Did.{Did}
use Rattle.desk_steps.specs.declared.turned.Did.TheVariants.{Idle, Dropped, Held, Stepped, Refused}
use Rattle.desk_side.proofs.Moves.{each-change, each-same, prefix-more, was}
use Rattle.desk_steps.proofs.Keeping.{drops-agree, looks-agree, not-own}

same-number : (m n : ℕ) → (m == n) ≡ true → m ≡ n
same-number m n h = elim (eqb_tells m n) [ inl q ↦ q.1 | inr q ↦ absurd (cc (h, q.0)) ]

same-source : (a b : Source) → is_same_source a b ≡ true → a ≡ b
same-source (sources.Client m) (sources.Client n) h = ap sources.Client (same-number m n h)
same-source (sources.Client m) (sources.Port n) h = absurd (cc h)
same-source (sources.Client m) sources.Clock h = absurd (cc h)
same-source (sources.Port m) (sources.Client n) h = absurd (cc h)
same-source (sources.Port m) (sources.Port n) h = ap sources.Port (same-number m n h)
same-source (sources.Port m) sources.Clock h = absurd (cc h)
same-source sources.Clock (sources.Client n) h = absurd (cc h)
same-source sources.Clock (sources.Port n) h = absurd (cc h)
same-source sources.Clock sources.Clock h = refl

pub lists-append : (to : Recipient) (xs ys : List law.Batch) → lists_to to (xs ++ ys) ≡ lists_to to xs ++ lists_to to ys
lists-append to [] ys = refl
lists-append to (x ∷ xs) ys =
    ap (λ (ls : List (List LinkOut)). unless_empty (output_to to x) ++ ls) (lists-append to xs ys)
    ∙ sym (append_assoc (unless_empty (output_to to x)) (lists_to to xs) (lists_to to ys))

lists-more : (to : Recipient) (xs : List law.Batch) (b : law.Batch)
    → lists_to to (xs ++ b ∷ []) ≡ lists_to to xs ++ unless_empty (output_to to b)
lists-more to xs b =
    lists-append to xs (b ∷ [])
    ∙ ap (λ (ls : List (List LinkOut)). lists_to to xs ++ ls) (append-nil (unless_empty (output_to to b)))

-- what is sent is what the batch tells
pub output-listed : (to : Recipient) (b : law.Batch) (s : BatchOutput) → IsOutputOf b s → list_for to s ≡ output_to to b
output-listed (recipients.Client n) b s is = rw (is.0, is.1) refl
output-listed (recipients.Port n) b s is = rw (is.2, is.3) refl

-- a producer to which lists went has sent all that there is now, or a beginning of it
follows-whole : (lists all : List (List LinkOut)) (w v : OutletProducerState) → Follows w all → ProducerSent lists w v
    → v.overflowed ≡ false
    → v.sent ≡ all ++ lists
follows-whole lists all w v f sent isnt = let r = sent.whole isnt in r.1
    ∙ ap (λ (z : List (List LinkOut)). z ++ lists) (f.1 r.0)

follows-by : (lists all : List (List LinkOut)) (w v : OutletProducerState) → Follows w all → ProducerSent lists w v
    → (b : Bool)
    → v.overflowed ≡ b → Follows v (all ++ lists)
follows-by lists all w v f sent false is =
    (([], append-nil v.sent ∙ follows-whole lists all w v f sent is), follows-whole lists all w v f sent)
follows-by lists all w v f sent true is = (
  subst (λ (z : List (List LinkOut)). IsPrefix z (all ++ lists)) (sym (sent.lost is))
      (prefix-more w.sent all lists f.0),
  follows-whole lists all w v f sent,
)

follows-step : (lists all : List (List LinkOut)) (w v : OutletProducerState) → Follows w all → ProducerSent lists w v
    → Follows v (all ++ lists)
follows-step lists all w v f sent = follows-by lists all w v f sent v.overflowed refl

get-one-more : {A : Type 0} (xs : List A) (y z : A) (i : ℕ) → slice_get (xs ++ y ∷ []) i ≡ Some z
    → (slice_get xs i ≡ Some z) ⊎ (y ≡ z)
get-one-more [] y z zero at = inr (cc at)
get-one-more [] y z (suc i) at = absurd (cc at)
get-one-more (x ∷ xs) y z zero at = inl at
get-one-more (x ∷ xs) y z (suc i) at = get-one-more xs y z i at

module _ (inlets : List NamedInlet) (outlets : List NamedOutlet) (k : ℕ) (s t : DeskState) (h : Agrees inlets outlets s)
    (x : StepsFirst k s t) where
  -- a consumer has the name of its place
  name-of : (i : ℕ) (a : InletConsumerState) → slice_get s.side.consumers i ≡ Some a → slice_get inlets i ≡ Some a.name
  name-of i a at = ap (λ (z : List NamedInlet). slice_get z i) (sym h.consumer_names)
      ∙ (slice_get-map consumer_name s.side.consumers i ∙ ap (option_map consumer_name) at)

  -- consumers keep their names
  consumer-moves : (j : ℕ) (a : InletConsumerState) → slice_get s.side.consumers j ≡ Some a
      → (b : InletConsumerState) × (slice_get t.side.consumers j ≡ Some b) × (consumer_name b ≡ consumer_name a)
  consumer-moves = each-change k (ConsumerGave x.event)
      (λ a b. consumer_name b ≡ consumer_name a) s.side.consumers t.side.consumers x.consumers
      (λ a b at g. g.0) (λ a. refl)

  -- an event of the inlet's own comes out of its ring and is kept
  from-here : (a b : InletConsumerState) → slice_get s.side.consumers k ≡ Some a → ConsumerGave x.event a b
      → events_from b.name.source t.recorded.kept.events ≡ events_from b.name.source b.gave
  from-here a b at g =
      subst (λ (n : NamedInlet). events_from n.source t.recorded.kept.events ≡ events_from n.source b.gave) (sym g.0)
      (ap (events_from a.name.source) x.step.events
      ∙ (filter-append (is_from a.name.source) s.recorded.kept.events (x.event ∷ [])
      ∙ (ap (λ (z : List Event). z ++ events_from a.name.source (x.event ∷ [])) (h.from_all k a at)
      ∙ (sym (filter-append (is_from a.name.source) a.gave (x.event ∷ []))
      ∙ ap (events_from a.name.source) (sym g.1)))))

  -- it is none of another's
  from-there : (j : ℕ) (b : InletConsumerState) → j ≢ k → slice_get s.side.consumers j ≡ Some b
      → events_from b.name.source t.recorded.kept.events ≡ events_from b.name.source b.gave
  from-there j b ne there =
      let own : source_of x.event ≡ x.consumer.name.source =
      same-source (source_of x.event) x.consumer.name.source x.own in
      let apart : is_same_source x.consumer.name.source b.name.source ≡ false =
      h.apart k j x.consumer.name b.name (name-of k x.consumer x.there) (name-of j b there) (λ e. ne (sym e)) in
      let no : is_from b.name.source x.event ≡ false =
      subst (λ (z : Source). is_same_source z b.name.source ≡ false) (sym own) apart in
      ap (events_from b.name.source) x.step.events
      ∙ (not-own b.name.source x.event s.recorded.kept.events no ∙ h.from_all j b there)

  from-more : (j : ℕ) (b : InletConsumerState) → slice_get t.side.consumers j ≡ Some b
      → events_from b.name.source t.recorded.kept.events ≡ events_from b.name.source b.gave
  from-more j b at =
      elim (eqb_tells j k) [
        | inl q ↦ (
            let r = x.consumers.there x.consumer x.there in
            let same : r.0 ≡ b = get-same t.side.consumers k r.0 b r.1 (rw (← q.1) at) in
            from-here x.consumer b x.there (subst (ConsumerGave x.event x.consumer) same r.2)
            )
        | inr q ↦ from-there j b q.1 (sym (x.consumers.others j q.1) ∙ at)
      ]

  producer-moves : (d : ℕ) (w : OutletProducerState) → slice_get s.side.producers d ≡ Some w
      → (v : OutletProducerState) × (slice_get t.side.producers d ≡ Some v) × (producer_name v ≡ producer_name w)
  producer-moves d w at = let r = x.producers.each d w at in (r.0, r.1, r.2.name)

  to-more : (d : ℕ) (v : OutletProducerState) → slice_get t.side.producers d ≡ Some v
      → Follows v (lists_kept v.name.to t.recorded.kept)
  to-more d v at =
      let w = was s.side.producers t.side.producers d v x.producers.count at in
      let r = x.producers.each d w.0 w.1 in
      let same : r.0 ≡ v = get-same t.side.producers d r.0 v r.1 at in
      let sent : ProducerSent (unless_empty (list_for w.0.name.to x.output)) w.0 v =
      subst (ProducerSent (unless_empty (list_for w.0.name.to x.output)) w.0) same r.2 in
      let listed : list_for w.0.name.to x.output ≡ output_to w.0.name.to x.step.batch =
      output-listed w.0.name.to x.step.batch x.output x.step.says in
      let lists : lists_kept w.0.name.to t.recorded.kept
      ≡ lists_kept w.0.name.to s.recorded.kept ++ unless_empty (list_for w.0.name.to x.output) =
      ap (λ (bs : List law.Batch). lists_to w.0.name.to bs) x.step.batches
      ∙ (lists-more w.0.name.to s.recorded.kept.batches x.step.batch
      ∙ ap (λ (z : List LinkOut). lists_kept w.0.name.to s.recorded.kept ++ unless_empty z) (sym listed)) in
      let f : Follows v (lists_kept w.0.name.to s.recorded.kept ++ unless_empty (list_for w.0.name.to x.output)) =
      follows-step (unless_empty (list_for w.0.name.to x.output)) (lists_kept w.0.name.to s.recorded.kept) w.0 v
      (h.to_all d w.0 w.1) sent in
      subst (λ (n : NamedOutlet). Follows v (lists_kept n.to t.recorded.kept)) (sym sent.name)
      (subst (Follows v) (sym lists) f)

  named-more : AreNamed inlets t.recorded.kept.events
  named-more i e at =
      elim (get-one-more s.recorded.kept.events x.event e i (rw x.step.events at at)) [
        | inl q ↦ h.named i e q
        | inr q ↦ (
          k,
          x.consumer.name,
          name-of k x.consumer x.there,
          subst
              (λ (z : Event). is_from x.consumer.name.source z ≡ true) q x.own,
        )
      ]

  pub steps-agree : Agrees inlets outlets t
  steps-agree = record {
    consumer_names = each-same consumer_name s.side.consumers t.side.consumers x.consumers.count consumer-moves
        ∙ h.consumer_names;
    producer_names = each-same producer_name s.side.producers t.side.producers x.producers.count producer-moves
        ∙ h.producer_names;
    apart = h.apart;
    few = h.few;
    from_all = from-more;
    to_all = to-more;
    named = named-more;
  }

pub does-agree : (inlets : List NamedInlet) (outlets : List NamedOutlet) (k : ℕ) (did : Did) (s t : DeskState)
    → Agrees inlets outlets s → Does k did s t → Agrees inlets outlets t
does-agree inlets outlets k Idle s t h d = looks-agree inlets outlets k s t h d.0
does-agree inlets outlets k Dropped s t h d =
    drops-agree inlets outlets k d.0 t (looks-agree inlets outlets k s d.0 h d.1) d.2
does-agree inlets outlets k Held s t h d = looks-agree inlets outlets k s t h d.0
does-agree inlets outlets k Stepped s t h d =
    steps-agree inlets outlets k d.0 t (looks-agree inlets outlets k s d.0 h d.1) d.2
does-agree inlets outlets k Refused s t h d = looks-agree inlets outlets k s t h d.0

pub went-agree : (inlets : List NamedInlet) (outlets : List NamedOutlet) (s : DeskState) (dids : List Did)
    (t : DeskState) → Agrees inlets outlets s → Went s dids t → Agrees inlets outlets t
went-agree inlets outlets s [] t h w = subst (Agrees inlets outlets) (sym w) h
went-agree inlets outlets s (did ∷ dids) t h w =
    does-agree inlets outlets (length dids) did w.0 t (went-agree inlets outlets s dids w.0 h w.1) w.2

pub rounds-agree : (inlets : List NamedInlet) (outlets : List NamedOutlet) (turned : Turned) (s t : DeskState)
    → Agrees inlets outlets s → Rounds turned s t → Agrees inlets outlets t
rounds-agree inlets outlets turned s t h r = went-agree inlets outlets s r.dids t h r.went

pub refused-agree : (inlets : List NamedInlet) (outlets : List NamedOutlet) (s t : DeskState) → Agrees inlets outlets s
    → RoundIsRefused s t → Agrees inlets outlets t
refused-agree inlets outlets s t h r = went-agree inlets outlets s r.dids t h r.went
