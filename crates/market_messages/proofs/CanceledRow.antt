-- Canceled of an order.
use Rattle.std.proofs.Common.{◌≡◌, ℕ, ◌+◌, ◌-◌, ◌≤◌, true, false, [], ◌∷◌, refl, arith, bytes_eq, Some}
use Rattle.std.specs.Prelude.{◌==◌}
use Rattle.std.proofs.Common.{ne_eqb}
use Rattle.std.proofs.lemmas.Bool.{and_parts}
use Rattle.ouch_codec.specs.declared.outbound.canceled.Canceled.{Canceled}
use Rattle.ouch_codec.specs.declared.outbound.Outbound.TheVariants as market
use Rattle.orders.specs.order_law.declared.stage.Stage.TheVariants.{Working}
use Rattle.orders.specs.order_law.Lawful.{may_leave, works_as}
use Rattle.orders.specs.order_law.Told as law
use Rattle.order_machine.specs.OrderRecord.{OrderRecord, after_message, live_token, record_life, shown_as}
use Rattle.orders.specs.Changes.{changed_by, with_quantities}
use Rattle.orders.specs.declared.change.Change.TheVariants as changes
use Rattle.to_client.specs.Occasions.{occasion_seen}
use Rattle.to_client.specs.declared.occasion.Occasion.TheVariants as occasions
use Rattle.market_messages.proofs.Stages.{leaves-few, works-parts}
use Rattle.market_messages.specs.Meets.{is_lawful, told_of}

module _ (m : Canceled) (o : OrderRecord) (may : is_lawful (market.Canceled m) o ≡ true) where
  parts : (works_as (record_life o) m.token ≡ true) × (may_leave m.decrement (record_life o) ≡ true)
  parts = and_parts (works_as (record_life o) m.token) (may_leave m.decrement (record_life o)) may

  token : bytes_eq m.token (live_token o) ≡ true
  token = (works-parts (record_life o) m.token parts.0).0

  pub cancel-works : o.stage ≡ Working
  cancel-works = (works-parts (record_life o) m.token parts.0).1

  pub cancel-few : m.decrement ≤ o.unfilled
  cancel-few = leaves-few (record_life o) m.decrement parts.1

  module _ (issued : ℕ) where
    abbrev pub left : OrderRecord
    left = with_quantities (changed_by (changes.Canceled m.decrement) o) o

    pub canceled-now : changed_by (changes.Canceled m.decrement) o ≡ after_message issued (market.Canceled m) o
    canceled-now = refl

    pub gone-told : m.decrement ≡ o.unfilled → told_of issued (market.Canceled m) o
        ≡ law.cancelled (issued + 1) (Some (m.reason ∷ [])) (shown_as left)
    gone-told all =
        let works = cancel-works in
        let nothing : o.unfilled - m.decrement ≡ 0 = omega (arith, all) in
        rw (token, works, nothing) refl

    pub reduced-told : ((m.decrement ≡ o.unfilled) → ⊥)
        → told_of issued (market.Canceled m) o ≡ law.report (issued + 1) (occasion_seen (occasions.Restated m.reason))
        (shown_as left) ∷ []
    reduced-told part =
        let works = cancel-works in
        let few = cancel-few in
        let some : (o.unfilled - m.decrement == 0) ≡ false =
        ne_eqb (o.unfilled - m.decrement) 0 (λ e. part (omega (arith, few, e))) in
        rw (token, some, works) refl
