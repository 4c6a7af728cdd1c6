-- The end that a name names.
use Rattle.std.proofs.Common.{◌≡◌, ℕ, ◌<◌, ◌++◌, List, [], Option, Some, None, map, length, slice_get, refl, ap, sym}
use Rattle.std.proofs.Common.{◌∙◌, arith, inl}
use Rattle.std.specs.Prelude.{option_map}
use Rattle.std.specs.Global.{Global}
use Rattle.std.proofs.lemmas.List.{append-nil}
use Rattle.std.proofs.lemmas.Option.{slice_get-map, slice_get_within}
use mathlib.Core.List.{IsPrefix}
use Rattle.rtrb.specs.Ring.{all_sent, received}
use Rattle.rtrb.specs.declared.consumer.Consumer.{Consumer}
use Rattle.rtrb.specs.declared.finished.Finished.{Finished}
use Rattle.rtrb.specs.declared.AnyItems.{AnyItems}
use Rattle.gate_law.specs.Events.{LinkOut}
use Rattle.gate_events.specs.declared.event.Event.{Event}
use Rattle.gate_events.specs.declared.source.Source.{Source}
use Rattle.gate_events.specs.declared.source.Recipient.{Recipient}
use Rattle.desk_rings.specs.Rings.{NamedInlet, NamedOutlet, consumer_ring, finished_ring}
use Rattle.desk_rings.specs.Ends.{IsNamedEnd, done_of}
use Rattle.desk_rings.specs.declared.finished.FinishedEnd.TheVariants.{Put, Took}
use Rattle.desk_rings.specs.CoreEnds.{IsBorneOut, InletConsumerState, ConsumerLooked, ConsumersLooked}
use Rattle.desk_rings.specs.CoreEnds.{OutletProducerState, ProducerLooked, ProducersLooked}
use Rattle.desk_rings.specs.CoreEnds.{consumer_name, producer_name}
use Rattle.desk_rings.proofs.Places.{get-same}

named-some : {A B : Type 0} (f : A → B) (o : Option A) (r : B) → option_map f o ≡ Some r
    → (x : A) × (o ≡ Some x) × (f x ≡ r)
named-some f None r h = absurd cc
named-some f (Some x) r h = (x, refl, cc)

-- what stands at a place of the list of names is the name of what stands there
pub named : {A B : Type 0} (f : A → B) (xs : List A) (names : List B) (k : ℕ) (r : B) → map f xs ≡ names
    → slice_get names k ≡ Some r
    → (x : A) × (slice_get xs k ≡ Some x) × (f x ≡ r)
named f xs names k r all at = named-some f (slice_get xs k) r
    (sym (slice_get-map f xs k) ∙ (ap (λ ys. slice_get ys k) all ∙ at))

pub named-inside : {A B : Type 0} (f : A → B) (xs : List A) (names : List B) (k : ℕ) (r : B) → map f xs ≡ names
    → slice_get names k ≡ Some r
    → k < length xs
named-inside f xs names k r all at = let x = named f xs names k r all at in slice_get_within xs k x.0 x.1

pub named-is : {A B : Type 0} (f : A → B) (xs : List A) (names : List B) (k : ℕ) (r : B) (x : A) → map f xs ≡ names
    → slice_get names k ≡ Some r
    → slice_get xs k ≡ Some x → f x ≡ r
named-is f xs names k r x all at here = let y = named f xs names k r all at in ap f (get-same xs k x y.0 here y.1) ∙ y.2

-- ---- a look

pub consumer-stays : (a : InletConsumerState) → ConsumerLooked a a
consumer-stays a = (refl, refl, ([], append-nil a.known))

pub producer-stays : (w : OutletProducerState) → ProducerLooked w w
producer-stays w = (refl, refl, refl, omega arith, refl, refl, refl, inl refl)

pub consumers-stay : (consumers : List InletConsumerState) → ConsumersLooked consumers consumers
consumers-stay consumers = record { count = refl; each = λ k a at. (a, at, consumer-stays a) }

pub producers-stay : (producers : List OutletProducerState) → ProducersLooked producers producers
producers-stay producers = record { count = refl; each = λ d w at. (w, at, producer-stays w) }

-- what a finished inlet says, once its consumer has looked
pub put-borne-out : (inlets : List NamedInlet) (outlets : List NamedOutlet) (at : ℕ) (source : Source)
    (f : Finished Event Global AnyItems)
    (consumers new : List InletConsumerState) (producers : List OutletProducerState)
    → map consumer_name consumers ≡ inlets
    → IsNamedEnd inlets outlets at (Put source f)
    → ConsumersLooked consumers new → ((a : InletConsumerState) → slice_get new at ≡ Some a
    → a.gave ++ a.known ≡ all_sent f)
    → IsBorneOut (done_of at (Put source f)) new producers
put-borne-out inlets outlets at source f consumers new producers names is looked all =
    let name : NamedInlet = record { source = source; ring = finished_ring f } in
    let a = named consumer_name consumers inlets at name names is.0 in
    let b = looked.each at a.0 a.1 in
    (b.0, b.1, ap (λ (n : NamedInlet). n.source) (b.2.0 ∙ a.2), all b.0 b.1, is.1)

-- what a finished outlet says, once its producer was compared
pub took-borne-out : (inlets : List NamedInlet) (outlets : List NamedOutlet) (at : ℕ) (to : Recipient)
    (c : Consumer (List LinkOut) Global AnyItems)
    (producers new : List OutletProducerState) (consumers : List InletConsumerState)
    → map producer_name producers ≡ outlets
    → IsNamedEnd inlets outlets at (Took to c)
    → ProducersLooked producers new → ((w : OutletProducerState) → slice_get new at ≡ Some w
    → IsPrefix (received c) w.sent)
    → ((w : OutletProducerState) → slice_get new at ≡ Some w → IsPrefix (received c) w.released)
    → IsBorneOut (done_of at (Took to c)) consumers new
took-borne-out inlets outlets at to c producers new consumers names is looked prefix released =
    let name : NamedOutlet = record { to = to; ring = consumer_ring c } in
    let w = named producer_name producers outlets at name names is in
    let v = looked.each at w.0 w.1 in
    (v.0, v.1, ap (λ (n : NamedOutlet). n.to) (v.2.0 ∙ w.2), prefix v.0 v.1, released v.0 v.1)
