-- One ring more, and one end handed out.
use Rattle.std.proofs.Common.{◌≡◌, ℕ, zero, suc, Some, slice_get, ◌<◌, ◌+◌, ◌++◌, List, [], ◌∷◌, length, map, take}
use Rattle.std.proofs.Common.{get_or, ap, sym, ◌∙◌, arith, drop, subst, add-one}
use Rattle.std.specs.Prelude.{All}
use Rattle.std.proofs.lemmas.List.{map-append, take_more}
use Rattle.std.proofs.lemmas.List.Elements.{All-append}
use Rattle.gate_events.specs.declared.source.Source.{Source}
use Rattle.gate_events.specs.declared.source.Recipient.{Recipient}
use Rattle.desk_rings.specs.CoreEnds.{InletConsumerState, OutletProducerState, consumer_name, producer_name}
use Rattle.desk_rings.specs.declared.rings.EventRing.{EventRing}
use Rattle.desk_rings.specs.declared.rings.OutputRing.{OutputRing}
use Rattle.desk_rings.specs.Made.{IsFreshEvents, IsFreshLists, IsFreshConsumer, IsFreshProducer, MadeEvents, MadeLists}
use Rattle.desk_rings.specs.Made.{inlet_name, outlet_name}

all-one : {A : Type 0} (P : A → Type 0) (y : A) → P y → All P (y ∷ [])
all-one P y h zero d lt = h
all-one P y h (suc k) d lt = absurd (omega arith)

one-more : {A B : Type 0} (f : A → B) (xs : List A) (y : A) (ys : List B) (z : B) → map f xs ≡ ys → f y ≡ z
    → map f (xs ++ y ∷ []) ≡ ys ++ z ∷ []
one-more f xs y ys z are is = map-append f xs (y ∷ []) ∙ cc (are, is)

sources-more : {X : Type 0} (xs : List X) (i : ℕ) (x : X) → i < length xs → x ≡ get_or xs i x
    → take i xs ++ x ∷ [] ≡ take (i + 1) xs
sources-more xs i x inside is = ap (λ y. take i xs ++ y ∷ []) is ∙ sym (take_more xs i x inside)

pub events-more : (sources : List Source) (i : ℕ) (source : Source) (rings : List EventRing)
    (consumers : List InletConsumerState)
    (ring : EventRing) (consumer : InletConsumerState)
    → i < length sources → source ≡ get_or sources i source → MadeEvents (take i sources) rings consumers
    → ring.source ≡ source → inlet_name ring ≡ consumer_name consumer → IsFreshEvents ring → IsFreshConsumer consumer
    → MadeEvents (take (i + 1) sources) (rings ++ ring ∷ []) (consumers ++ consumer ∷ [])
events-more sources i source rings consumers ring consumer inside is made own name fresh unread = record {
  sources_are = one-more (λ (r : EventRing). r.source) rings ring (take i sources) source made.sources_are own
      ∙ sources-more sources i source inside is;
  names = one-more inlet_name rings ring (map consumer_name consumers) (consumer_name consumer) made.names name
      ∙ sym (map-append consumer_name consumers (consumer ∷ []));
  fresh = All-append IsFreshEvents rings (ring ∷ []) made.fresh (all-one IsFreshEvents ring fresh);
  unread = All-append IsFreshConsumer consumers (consumer ∷ []) made.unread (all-one IsFreshConsumer consumer unread);
}

pub lists-more : (recipients : List Recipient) (i : ℕ) (to : Recipient) (producers : List OutletProducerState)
    (rings : List OutputRing)
    (producer : OutletProducerState) (ring : OutputRing)
    → i < length recipients → to ≡ get_or recipients i to → MadeLists (take i recipients) producers rings
    → producer.name.to ≡ to → producer_name producer ≡ outlet_name ring → IsFreshProducer producer → IsFreshLists ring
    → MadeLists (take (i + 1) recipients) (producers ++ producer ∷ []) (rings ++ ring ∷ [])
lists-more recipients i to producers rings producer ring inside is made own name fresh unread = record {
  recipients_are = one-more (λ (w : OutletProducerState). w.name.to) producers producer
      (take i recipients) to made.recipients_are own
      ∙ sources-more recipients i to inside is;
  names = one-more producer_name producers producer (map outlet_name rings) (outlet_name ring) made.names name
      ∙ sym (map-append outlet_name rings (ring ∷ []));
  fresh = All-append IsFreshProducer producers (producer ∷ []) made.fresh (all-one IsFreshProducer producer fresh);
  unread = All-append IsFreshLists rings (ring ∷ []) made.unread (all-one IsFreshLists ring unread);
}

-- ---- handed out by position

next-behind : {A : Type 0} (xs : List A) (n : ℕ) (y : A) (ys : List A) → y ∷ ys ≡ drop n xs
    → (slice_get xs n ≡ Some y) × (ys ≡ drop (suc n) xs)
next-behind [] zero y ys h = absurd cc
next-behind [] (suc n) y ys h = absurd cc
next-behind (x ∷ xs) zero y ys h = (cc, cc)
next-behind (x ∷ xs) (suc n) y ys h = next-behind xs n y ys h

-- what stands at a place, and what is left behind it
pub first-behind : {A : Type 0} (xs : List A) (n : ℕ) (y : A) (ys : List A) → y ∷ ys ≡ drop n xs
    → (slice_get xs n ≡ Some y) × (ys ≡ drop (n + 1) xs)
first-behind xs n y ys h = rw add-one (next-behind xs n y ys h)

-- what holds of each place holds with one more
pub each-and-one : {A : Type 0} (P : ℕ → A → Type 0) (xs : List A) (y : A)
    → ((k : ℕ) (x : A) → slice_get xs k ≡ Some x → P k x) → P (length xs) y
    → (k : ℕ) (x : A) → slice_get (xs ++ y ∷ []) k ≡ Some x → P k x
each-and-one {A} P [] y all here zero x at = subst (λ (z : A). P 0 z) (cc at) here
each-and-one P [] y all here (suc k) x at = absurd (cc at)
each-and-one P (z ∷ zs) y all here zero x at = all zero x at
each-and-one P (z ∷ zs) y all here (suc k) x at =
    each-and-one (λ j w. P (suc j) w) zs y (λ j w. all (suc j) w) here k x at
