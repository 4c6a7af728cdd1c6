-- Ends that have finished are compared, one after another, and then once more.
use Rattle.std.proofs.Common.{◌≡◌, ◌≢◌, ℕ, ◌<◌, ◌+◌, ◌++◌, List, [], ◌∷◌, length, map, Option, Some, None, slice_get}
use Rattle.std.proofs.Common.{refl, ap, sym, ◌∙◌, subst, arith, inl, inr, append_assoc, length-append}
use Rattle.std.proofs.lemmas.List.{append-nil}
use Rattle.std.proofs.lemmas.Bool.Decides.{eqb_tells}
use mathlib.Core.List.{IsPrefix}
use Rattle.gate_events.specs.declared.event.Event.{Event}
use Rattle.desk_side.specs.desk_rings.Rings.{Done, put_at, took_at, NamedInlet, NamedOutlet}
use Rattle.desk_side.specs.desk_rings.Ends.{inlet_of}
use Rattle.desk_side.specs.desk_rings.CoreEnds.{IsBorneOut, InletConsumerState, ConsumerLooked, ConsumersLooked}
use Rattle.desk_side.specs.desk_rings.CoreEnds.{ConsumersStayBut, OutletProducerState}
use Rattle.desk_side.specs.desk_rings.CoreEnds.{ProducerLooked, ProducersLooked, consumer_name, producer_name}
use Rattle.desk_side.proofs.desk_rings.Places.{get-same}
use Rattle.desk_steps.specs.Settling.{AreBegun, AreBorneOut, IsBegun}
use Rattle.desk_side.proofs.Moves.{come-to, each-same, prefix-same, prefix-trans}

pub empty-list : {A : Type 0} (xs : List A) → length xs ≡ 0 → xs ≡ []
empty-list [] h = refl
empty-list (x ∷ xs) h = absurd (omega arith)

-- a beginning as long as the whole is the whole
pub prefix-whole : {A : Type 0} (xs ys : List A) → IsPrefix xs ys → length xs ≡ length ys → xs ≡ ys
prefix-whole xs ys p len =
    let none : p.0 ≡ [] = empty-list p.0 (omega (arith, length-append xs p.0, ap length p.1, len)) in
    sym (append-nil xs) ∙ (ap (λ zs. xs ++ zs) (sym none) ∙ p.1)

prefix-both : {A : Type 0} (xs ys : List A) → IsPrefix xs ys → IsPrefix ys xs → xs ≡ ys
prefix-both xs ys p q =
    let none : p.0 ≡ [] = empty-list p.0 (omega
    (arith, length-append xs p.0, length-append ys q.0, ap length p.1, ap length q.1)) in
    sym (append-nil xs) ∙ (ap (λ zs. xs ++ zs) (sym none) ∙ p.1)

prefix-behind : {A : Type 0} (xs ys zs : List A) → IsPrefix ys zs → IsPrefix (xs ++ ys) (xs ++ zs)
prefix-behind xs ys zs p = (p.0, append_assoc xs ys p.0 ∙ ap (λ ws. xs ++ ws) p.1)

-- all that a consumer gave and knows, before a look and after it
total-grows : (a b : InletConsumerState) → ConsumerLooked a b → IsPrefix (a.gave ++ a.known) (b.gave ++ b.known)
total-grows a b l = subst (λ (z : List Event). IsPrefix (a.gave ++ a.known) (z ++ b.known)) (sym l.1)
    (prefix-behind a.gave a.known b.known l.2)

pub begun-stays : (f : Done) (old new : List InletConsumerState) → ConsumersLooked old new → IsBegun f old
    → IsBegun f new
begun-stays (put_at k source events) old new l begun = λ b at.
    let a = come-to ConsumerLooked old new l.count l.each k b at in
    prefix-trans events (a.0.gave ++ a.0.known) (b.gave ++ b.known) (begun a.0 a.1) (total-grows a.0 b a.2)
begun-stays (took_at d to lists) old new l begun = begun

pub borne-out-begun : (f : Done) (consumers : List InletConsumerState) (producers : List OutletProducerState)
    → IsBorneOut f consumers producers → IsBegun f consumers
borne-out-begun (put_at k source events) consumers producers borne_out = λ b at.
    let same : borne_out.0 ≡ b = get-same consumers k borne_out.0 b borne_out.1 at in
    subst (λ (z : InletConsumerState). IsPrefix events (z.gave ++ z.known)) same
    (subst (λ (z : List Event). IsPrefix events z) (sym borne_out.3) (prefix-same events))
borne-out-begun (took_at d to lists) consumers producers borne_out = tt

-- what an inlet said stays what its consumer knows, while other ends are compared that say no more than is known
borne-out-stays : (f g : Done) (old new : List InletConsumerState) (producers more : List OutletProducerState)
    → ConsumersLooked old new
    → ConsumersStayBut (inlet_of g) old new → ProducersLooked producers more
    → IsBegun g old → IsBorneOut g new more → IsBorneOut f old producers → IsBorneOut f new more
borne-out-stays (took_at d to lists) g old new producers more l stay m begun here borne_out =
    let r = m.each d borne_out.0 borne_out.1 in (
      r.0,
      r.1,
      ap (λ (n : NamedOutlet). n.to) r.2.0
          ∙ borne_out.2,
      subst (λ z. IsPrefix lists z) (sym r.2.1) borne_out.3,
      subst (λ z. IsPrefix lists z) (sym r.2.4) borne_out.4,
    )
borne-out-stays (put_at k source events) (took_at d to lists) old new producers more l stay m begun here borne_out =
    (borne_out.0, stay k (λ e. absurd (cc e)) ∙ borne_out.1, borne_out.2, borne_out.3, borne_out.4)
borne-out-stays (put_at k source events) (put_at j other all) old new producers more l stay m begun here borne_out =
    elim (eqb_tells k j) [
      | inl q ↦ (
          let a = borne_out.0 in
          let r = l.each k a borne_out.1 in
          let b = here.0 in
          let same : r.0 ≡ b = get-same new k r.0 b r.1 (rw (q.1) here.1) in
          let looked : ConsumerLooked a b = subst (ConsumerLooked a) same r.2 in
          let grew : IsPrefix (a.gave ++ a.known) all =
          subst (λ (z : List Event). IsPrefix (a.gave ++ a.known) z) here.3 (total-grows a b looked) in
          let whole : a.gave ++ a.known ≡ all = prefix-both (a.gave ++ a.known) all grew
          (begun a (rw (← q.1) borne_out.1))
          in (
            b,
            rw (q.1) here.1,
            ap (λ (n : NamedInlet). n.source) looked.0 ∙ borne_out.2,
            here.3
                ∙ (sym whole ∙ borne_out.3),
            borne_out.4,
          )
          )
      | inr q ↦ (borne_out.0, stay k (λ e. q.1 (sym (cc e))) ∙ borne_out.1, borne_out.2, borne_out.3, borne_out.4)
    ]

-- of the first so many
abbrev pub FirstBegun : ℕ → List Done → List InletConsumerState → Type 0
FirstBegun n finished consumers = (i : ℕ) (f : Done) → i < n → slice_get finished i ≡ Some f → IsBegun f consumers

abbrev pub FirstBorneOut : ℕ → List Done → List InletConsumerState → List OutletProducerState → Type 0
FirstBorneOut n finished consumers producers = (i : ℕ) (f : Done) → i < n → slice_get finished i ≡ Some f
    → IsBorneOut f consumers producers

pub one-begun : (i : ℕ) (finished : List Done) (g : Done) (old new : List InletConsumerState)
    (more : List OutletProducerState)
    → slice_get finished i ≡ Some g
    → ConsumersLooked old new → IsBorneOut g new more → FirstBegun i finished old → FirstBegun (i + 1) finished new
one-begun i finished g old new more here l borne_out before j f lt at =
    elim (eqb_tells j i) [
      | inl q ↦ subst (λ (z : Done). IsBegun z new) (get-same finished i g f here (rw (← q.1) at))
          (borne-out-begun g new more borne_out)
      | inr q ↦ (let less : j < i = omega (arith, q.1) in begun-stays f old new l (before j f less at))
    ]

pub one-borne-out : (i : ℕ) (finished : List Done) (g : Done) (first old new : List InletConsumerState)
    (producers more : List OutletProducerState)
    → slice_get finished i ≡ Some g
    → ConsumersLooked first old → ConsumersLooked old new → ConsumersStayBut (inlet_of g) old new
    → ProducersLooked producers more
    → IsBorneOut g new more
    → AreBegun finished first → FirstBorneOut i finished old producers → FirstBorneOut (i + 1) finished new more
one-borne-out i finished g first old new producers more here came l stay m borne_out begun before j f lt at =
    elim (eqb_tells j i) [
      | inl q ↦ subst (λ (z : Done). IsBorneOut z new more) (get-same finished i g f here (rw (← q.1) at)) borne_out
      | inr q ↦ (
          let less : j < i = omega (arith, q.1) in
          borne-out-stays f g old new producers more l stay m (begun-stays g first old came (begun i g here)) borne_out
          (before j f less at)
          )
    ]

-- looks, one after another

looked-twice : (a b c : InletConsumerState) → ConsumerLooked a b → ConsumerLooked b c → ConsumerLooked a c
looked-twice a b c p q = (q.0 ∙ p.0, q.1 ∙ p.1, prefix-trans a.known b.known c.known p.2 q.2)

pub consumers-twice : (x y z : List InletConsumerState) → ConsumersLooked x y → ConsumersLooked y z
    → ConsumersLooked x z
consumers-twice x y z p q = record {
  count = q.count ∙ p.count;
  each = λ k a at. let b = p.each k a at in let c = q.each k b.0 b.1 in (c.0, c.1, looked-twice a b.0 c.0 b.2 c.2);
}

pub consumers-same : (x : List InletConsumerState) → ConsumersLooked x x
consumers-same x = record { count = refl; each = λ k a at. (a, at, (refl, refl, prefix-same a.known)) }

pub producers-same : (x : List OutletProducerState) → ProducersLooked x x
producers-same x = record {
  count = refl;
  each =
      λ d w at. (w, at, (refl, refl, refl, omega arith, refl, refl, refl, inl refl));
}

pub consumer-names : (old new : List InletConsumerState) (names : List NamedInlet) → ConsumersLooked old new
    → map consumer_name old ≡ names
    → map consumer_name new ≡ names
consumer-names old new names l is = each-same consumer_name old new l.count
    (λ k a at. let r = l.each k a at in (r.0, r.1, r.2.0)) ∙ is

pub producer-names : (old new : List OutletProducerState) (names : List NamedOutlet) → ProducersLooked old new
    → map producer_name old ≡ names
    → map producer_name new ≡ names
producer-names old new names l is = each-same producer_name old new l.count
    (λ d w at. let r = l.each d w at in (r.0, r.1, r.2.0))
    ∙ is
