use Rattle.std.proofs.Common.{◌≡◌, ◌∙◌, ◌∷◌, [], ap, arith, length, length-append}
use Rattle.gate_events.specs.declared.source.Recipient.{Recipient}
use Rattle.desk_side.specs.Places.{recipient_at}
use Rattle.desk_side.proofs.Arranging.{each-and-one}
use Rattle.desk_side.proofs.opening.recipients_of.Goals as goal

pub loop-place-preserved : goal.loop-place-preserved
loop-place-preserved c = record {
  count = ap length c.in_ok-push.ensures.items
      ∙ omega (
        arith,
        length-append c.loop-place.recipients.items
            (c.recipient_at.result ∷ []),
        c.loop-place.invariant.count,
      );
  each = rw c.in_ok-push.ensures.items (each-and-one
      (λ k (to : Recipient). to ≡ recipient_at c.args.clients k) c.loop-place.recipients.items c.recipient_at.result
      c.loop-place.invariant.each
      (rw c.loop-place.invariant.count c.recipient_at.ensures));
}
