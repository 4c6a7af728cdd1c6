-- A step that is made where there is room overflows no producer.
use Rattle.std.proofs.Common.{◌≡◌, ℕ, ◌<◌, ◌+◌, Bool, true, false, [], ◌∷◌, Option, Some, None, slice_get, refl, ap}
use Rattle.std.proofs.Common.{sym}
use Rattle.std.proofs.Common.{◌∙◌, subst, inl, inr, ◌⊎◌, arith}
use Rattle.gate_journal.specs.gate_law.Events as law
use Rattle.gate_journal.specs.gate_law.Events.{is_the_number}
use Rattle.gate_journal.specs.gate_law.Holds.{Holds}
use Rattle.gate_journal.specs.gate_law.Promises.{IsAmong}
use Rattle.gate_events.specs.declared.event.Event.{Event}
use Rattle.gate_events.specs.declared.source.Recipient.{Recipient}
use Rattle.gate_events.specs.declared.source.Recipient.TheVariants as recipients
use Rattle.gate_events.specs.Seen.{event_seen}
use Rattle.gate_events.specs.Sources.{unless_empty}
use Rattle.gate_journal.specs.Kept.{turns}
use Rattle.desk_side.specs.desk_rings.CoreEnds.{InletConsumerState, ConsumerGave, OutletProducerState, ProducerSent}
use Rattle.desk_side.specs.desk_rings.CoreEnds.{producer_room}
use Rattle.desk_side.proofs.desk_rings.Places.{get-same}
use Rattle.desk_side.proofs.desk_rings.Sizes.{beside-most}
use Rattle.desk_side.specs.declared.batch_output.BatchOutput.{BatchOutput}
use Rattle.desk_side.specs.BatchOutput.{IsOutputOf, list_for}
use Rattle.desk_side.specs.Places.{is_aimed}
use Rattle.desk_side.specs.Side.{AllKnowRoom, HaveRoom}
use Rattle.desk_steps.specs.Agreeing.{DeskState}
use Rattle.desk_steps.specs.Turning.{SameOverflows, StepsFirst}

among-not : (n : ℕ) (a target : Option ℕ) → IsAmong a target → is_the_number n target ≡ false
    → is_the_number n a ≡ false
among-not n None target among isnt = refl
among-not n (Some m) target among isnt = subst (λ (z : Option ℕ). is_the_number n z ≡ false) among isnt

-- whom nothing is aimed at nothing is sent to
not-aimed : (to : Recipient) (client port : Option ℕ) (b : law.Batch) (s : BatchOutput) → IsOutputOf b s
    → IsAmong b.client client
    → IsAmong b.port port
    → is_aimed client port to ≡ false → list_for to s ≡ []
not-aimed (recipients.Client n) client port b s is among other isnt =
    let none : is_the_number n s.client ≡ false = rw (is.0) (among-not n b.client client among isnt) in
    rw none refl
not-aimed (recipients.Port n) client port b s is other among isnt =
    let none : is_the_number n s.port ≡ false = rw (is.2) (among-not n b.port port among isnt) in
    rw none refl

stays-overflowed : (lists : _) (w v : OutletProducerState) → ProducerSent lists w v → w.overflowed ≡ true → (b : Bool)
    → v.overflowed ≡ b → v.overflowed ≡ w.overflowed
stays-overflowed lists w v sent overflowed true is = is ∙ sym overflowed
stays-overflowed lists w v sent overflowed false is = absurd (cc (overflowed, (sent.whole is).0))

producer-stays : (kept : ℕ) (output : BatchOutput) (client port : Option ℕ) (b : law.Batch) (w v : OutletProducerState)
    → IsOutputOf b output
    → IsAmong b.client client → IsAmong b.port port
    → (is_aimed client port w.name.to ≡ true → (w.overflowed ≡ true) ⊎ (kept < producer_room w))
    → ProducerSent (unless_empty (list_for w.name.to output)) w v
    → (aimed : Bool) → is_aimed client port w.name.to ≡ aimed → v.overflowed ≡ w.overflowed
producer-stays kept output client port b w v is one two room sent true aim =
    elim (room aim) [
      | inl overflowed ↦ stays-overflowed (unless_empty (list_for w.name.to output)) w v sent overflowed v.overflowed
          refl
      | inr free ↦ sent.stays (inl (omega (arith, free, beside-most w.free w.more)))
    ]
producer-stays kept output client port b w v is one two room sent false aim =
    sent.stays (inr (ap unless_empty (not-aimed w.name.to client port b output is one two aim)))

-- nor where there is room everywhere
pub overflows-nowhere : (kept k : ℕ) (s t : DeskState) (x : StepsFirst k s t) → AllKnowRoom (kept + 1) s.side.producers
    → SameOverflows s.side.producers t.side.producers
overflows-nowhere kept k s t x room d w v was now =
    let r = x.producers.each d w was in
    let lists = unless_empty (list_for w.name.to x.output) in
    let sent = subst (ProducerSent lists w) (get-same t.side.producers d r.0 v r.1 now) r.2 in
    elim (room d w was) [
      | inl overflowed ↦ stays-overflowed lists w v sent overflowed v.overflowed refl
      | inr free ↦ sent.stays (inl (omega (arith, free, beside-most w.free w.more)))
    ]

first-is : (a b : InletConsumerState) (e f : Event) → ConsumerGave e a b → slice_get a.known 0 ≡ Some f → e ≡ f
first-is a b e f g first = cc (rw (g.2) at first)

pub overflows-none : (kept k : ℕ) (s t : DeskState) (x : StepsFirst k s t) (client port : Option ℕ) (f : Event)
    → ((a : InletConsumerState) → slice_get s.side.consumers k ≡ Some a → slice_get a.known 0 ≡ Some f)
    → ((b : law.Batch) → Holds s.recorded.settings (record { event = event_seen f; batch = b } ∷ turns s.recorded.kept)
    → IsAmong b.client client × IsAmong b.port port)
    → HaveRoom kept client port s.side.producers → SameOverflows s.side.producers t.side.producers
overflows-none kept k s t x client port f front named room d w v was now =
    let consumer = x.consumers.there x.consumer x.there in
    let same : x.event ≡ f = first-is x.consumer consumer.0 x.event f consumer.2 (front x.consumer x.there) in
    let holds : Holds s.recorded.settings (record { event = event_seen f; batch = x.step.batch } ∷ turns
    s.recorded.kept) =
    subst (λ (z : Event). Holds s.recorded.settings
    (record { event = event_seen z; batch = x.step.batch } ∷ turns s.recorded.kept)) same x.step.holds in
    let among = named x.step.batch holds in
    let r = x.producers.each d w was in
    let sent = subst (ProducerSent (unless_empty (list_for w.name.to x.output)) w)
    (get-same t.side.producers d r.0 v r.1 now) r.2
    in
    producer-stays kept x.output client port x.step.batch w v x.step.says among.0 among.1 (λ aim. room d w was aim) sent
    (is_aimed client port w.name.to) refl
