-- No turn of an inlet releases what waits beside a ring, and what is kept stands in front of what is kept behind it.
use Rattle.std.proofs.Common.{◌≡◌, ℕ, Bool, true, false, List, [], ◌∷◌, length, Some, slice_get, refl, ap, sym, ◌∙◌}
use Rattle.std.proofs.Common.{subst}
use mathlib.Core.List.{IsPrefix}
use Rattle.gate_journal.specs.gate_law.Events.{LinkOut}
use Rattle.gate_events.specs.Sources.{unless_empty}
use Rattle.gate_events.specs.declared.source.Recipient.{Recipient}
use Rattle.desk_side.specs.desk_rings.Rings.{Done, NamedOutlet, took_at}
use Rattle.desk_side.specs.desk_rings.CoreEnds.{InletConsumerState, ProducerSent, OutletProducerState, ProducersLooked}
use Rattle.desk_side.specs.declared.batch_output.BatchOutput.{BatchOutput}
use Rattle.desk_side.specs.BatchOutput.{list_for}
use Rattle.desk_side.specs.Side.{OutputSent}
use Rattle.desk_steps.specs.Agreeing.{DeskState}
use Rattle.desk_steps.specs.Settling.{AreReleased, AreBorneOut, ProducerHolds, ProducersHold}
use Rattle.desk_steps.specs.Turning.{Drops, StepsFirst}
use Rattle.desk_side.proofs.Moves.{prefix-same, prefix-trans}

pub holds-none : (producers : List OutletProducerState) → ProducersHold producers producers
holds-none producers = record { count = refl; each = λ d w at. (w, at, (refl, refl, λ so. refl, prefix-same w.sent)) }

further : (w v u : OutletProducerState) → ProducerHolds w v → ProducerHolds v u → ProducerHolds w u
further w v u p q = (q.0 ∙ p.0, q.1 ∙ p.1, λ so. q.2 (p.1 ∙ so) ∙ p.2 so, prefix-trans w.sent v.sent u.sent p.3 q.3)

pub holds-twice : (x y z : List OutletProducerState) → ProducersHold x y → ProducersHold y z → ProducersHold x z
holds-twice x y z p q = record {
  count = q.count ∙ p.count;
  each = λ d w at. let v = p.each d w at in let u = q.each d v.0 v.1 in (u.0, u.1, further w v.0 u.0 v.2 u.2);
}

pub looks-hold : (x y : List OutletProducerState) → ProducersLooked x y → ProducersHold x y
looks-hold x y l = record {
  count = l.count;
  each = λ d w at. let v = l.each d w at in
      (v.0, v.1, (v.2.0, v.2.5, λ so. v.2.4, subst (λ z. IsPrefix w.sent z) (sym v.2.1) (prefix-same w.sent)));
}

sent-grows : (lists : List (List LinkOut)) (w v : OutletProducerState) → ProducerSent lists w v → (b : Bool)
    → v.overflowed ≡ b
    → IsPrefix w.sent v.sent
sent-grows lists w v sent true overflowed =
    subst (λ z. IsPrefix w.sent z) (sym (sent.lost overflowed)) (prefix-same w.sent)
sent-grows lists w v sent false overflowed = (lists, sym (sent.whole overflowed).1)

tells-hold : (output : BatchOutput) (x y : List OutletProducerState) → OutputSent output x y → ProducersHold x y
tells-hold output x y t = record {
  count = t.count;
  each = λ d w at. let v = t.each d w at in (
    v.0,
    v.1,
    (
      v.2.name,
      v.2.stages,
      v.2.waits,
      sent-grows
          (unless_empty (list_for w.name.to output)) w v.0 v.2 v.0.overflowed refl,
    ),
  );
}

pub steps-hold : (k : ℕ) (s t : DeskState) → StepsFirst k s t → ProducersHold s.side.producers t.side.producers
steps-hold k s t x = tells-hold x.output s.side.producers t.side.producers x.producers

pub drops-hold : (k : ℕ) (s t : DeskState) → Drops k s t → ProducersHold s.side.producers t.side.producers
drops-hold k s t x = subst (ProducersHold s.side.producers) (sym x.producers) (holds-none s.side.producers)

-- what finished outlets took, while nothing is released
pub all-released : (finished : List Done) (consumers : List InletConsumerState) (old new : List OutletProducerState)
    → AreBorneOut finished consumers old → ProducersHold old new → AreReleased finished new
all-released finished consumers old new borne_out holds i d to lists at =
    let was = borne_out i (took_at d to lists) at in
    let v = holds.each d was.0 was.1 in (
      v.0,
      v.1,
      ap (λ (n : NamedOutlet). n.to) v.2.0 ∙ was.2,
      λ so. subst (λ z. IsPrefix lists z) (sym (v.2.2 (sym v.2.1 ∙ so))) was.4,
    )
