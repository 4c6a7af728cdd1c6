-- Cancel Reject of an order.
use Rattle.std.proofs.Common.{◌≡◌, ℕ, refl, bytes_eq}
use Rattle.ouch_codec.specs.declared.outbound.cancel_reject.CancelReject.{CancelReject}
use Rattle.ouch_codec.specs.declared.outbound.Outbound.TheVariants as market
use Rattle.orders.specs.order_law.Told as law
use Rattle.order_machine.specs.OrderRecord.{OrderRecord, after_message, last_after, shown_as}
use Rattle.orders.specs.Changes.{changed_by, with_quantities}
use Rattle.orders.specs.declared.change.Change.TheVariants as changes
use Rattle.market_messages.specs.Meets.{told_of}

module _ (m : CancelReject) (o : OrderRecord) where
  abbrev pub left : OrderRecord
  left = with_quantities (changed_by (changes.NotCanceled m.token) o) o

  pub reject-told : (issued : ℕ) → told_of issued (market.CancelReject m) o
      ≡ law.cancel_rejected (last_after (bytes_eq m.token) o.cancel) (shown_as left)
  reject-told issued = refl

  pub reject-now : (issued : ℕ) → changed_by (changes.NotCanceled m.token) o
      ≡ after_message issued (market.CancelReject m) o
  reject-now issued = refl
