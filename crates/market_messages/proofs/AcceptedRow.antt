-- Accepted of an order.
use Rattle.std.proofs.Common.{◌≡◌, ℕ, ◌+◌, Bool, true, false, List, [], ◌∷◌, refl, ap, ◌∙◌, bytes_eq, codes, None}
use Rattle.std.specs.Prelude.{◌==◌, ◌&&◌, slice_index, Some, if◌then◌else◌}
use Rattle.order_machine.specs.fix_fields.Field.{first_value, Message, text, character}
use Rattle.orders.specs.fix_types.declared.new_order.NewOrder.{NewOrder}
use Rattle.orders.specs.fix_types.NewOrder.{new_order_fields}
use Rattle.orders.proofs.fix_types.NewOrderValues.{side-value, symbol-value}
use Rattle.ouch_codec.specs.declared.outbound.accepted.Accepted.{Accepted}
use Rattle.ouch_codec.specs.declared.side.Side.{Side}
use Rattle.ouch_codec.specs.declared.side.Side.TheVariants.{Buy, Sell, SellShort, SellShortExempt}
use Rattle.ouch_codec.specs.declared.outbound.Outbound.TheVariants as market
use Rattle.ouch_codec.specs.Parts.{unpadded}
use Rattle.orders.specs.order_law.Told as law
use Rattle.order_machine.specs.OrderRecord.{OrderRecord, after_message, record_life, shown_as}
use Rattle.std.proofs.lemmas.Bool.{and_parts}
use Rattle.orders.specs.order_law.Lawful.{same_terms}
use Rattle.orders.specs.order_law.Life.{is_dead, is_live, is_waiting}
use Rattle.orders.specs.order_law.declared.stage.Stage.TheVariants.{Waiting}
use Rattle.orders.specs.Changes.{changed_by, with_quantities}
use Rattle.orders.specs.declared.change.Change.TheVariants as changes
use Rattle.market_messages.specs.Meets.{is_lawful, told_of}
use Rattle.market_messages.specs.Sides.{fix_side}
use Rattle.market_messages.proofs.Stages.{waits-is}

-- ---- what a new order's fields are read as

text_there : (tag : ℕ) (m : Message) (t : List ℕ) → first_value tag m ≡ Some t → text tag m ≡ t
text_there tag m t e = rw e refl

pub character-fields : (m : NewOrder) → character 54 (new_order_fields m) ≡ m.side
character-fields m = ap (λ (t : List ℕ). slice_index t 0) (text_there 54 (new_order_fields m) _ (side-value m))

pub symbol-fields : (m : NewOrder) → text 55 (new_order_fields m) ≡ m.symbol
symbol-fields m = text_there 55 (new_order_fields m) m.symbol (symbol-value m)

-- the stock and the side are those of the order
pub same-sides : (stock : List ℕ) (side : Side) (o : OrderRecord)
    → (bytes_eq (unpadded stock) (text 55 o.new.message) && (fix_side side == character 54 o.new.message))
    ≡ same_terms side stock o.new
same-sides stock Buy o = refl
same-sides stock Sell o = refl
same-sides stock SellShort o = refl
same-sides stock SellShortExempt o = refl

-- ---- the row

module _ (issued : ℕ) (m : Accepted) (o : OrderRecord) where
  abbrev pub alive : OrderRecord
  alive = with_quantities (changed_by (changes.Opened m.shares m.price false) o) o

  abbrev pub over : OrderRecord
  over = with_quantities (changed_by (changes.Opened m.shares m.price true) o) o

  opened-shown : law.shown_opened m.shares m.price (shown_as o) ≡ shown_as alive
  opened-shown = refl

  closed-shown : law.closed (law.shown_opened m.shares m.price (shown_as o)) ≡ shown_as over
  closed-shown = refl

  pub accepted-now : changed_by (changes.Opened m.shares m.price (is_dead m.order_state)) o
      ≡ after_message issued (market.Accepted m) o
  accepted-now = refl

  told : told_of issued (market.Accepted m) o ≡ law.report (issued + 1) (law.plain (codes "0")) (shown_as alive) ∷ (if is_dead m.order_state then law.cancelled (issued + 2) None (shown_as over) else [])
  told =
      ap (λ (s : law.Shown). law.report (issued + 1) (law.plain (codes "0")) s ∷ (if is_dead m.order_state then law.cancelled (issued + 2) None (law.closed (law.shown_opened m.shares m.price (shown_as o))) else [])) opened-shown
      ∙ ap (λ (s : law.Shown). law.report (issued + 1) (law.plain (codes "0")) (shown_as alive) ∷ (if is_dead m.order_state then law.cancelled (issued + 2) None s else [])) closed-shown

  pub live-told : is_dead m.order_state ≡ false → told_of issued (market.Accepted m) o ≡ law.report (issued + 1) (law.plain (codes "0")) (shown_as alive) ∷ []
  live-told e = told ∙ ap (λ (x : Bool). law.report (issued + 1) (law.plain (codes "0")) (shown_as alive) ∷ (if x then law.cancelled (issued + 2) None (shown_as over) else [])) e

  pub dead-told : is_dead m.order_state ≡ true → told_of issued (market.Accepted m) o ≡ law.report (issued + 1) (law.plain (codes "0")) (shown_as alive) ∷ law.cancelled (issued + 2) None (shown_as over)
  dead-told e = told ∙ ap (λ (x : Bool). law.report (issued + 1) (law.plain (codes "0")) (shown_as alive) ∷ (if x then law.cancelled (issued + 2) None (shown_as over) else [])) e

pub open-waits : (m : Accepted) (o : OrderRecord) → is_lawful (market.Accepted m) o ≡ true → o.stage ≡ Waiting
open-waits m o may =
    let waits = (and_parts (is_live (record_life o) m.token)
    (is_waiting o.stage && same_terms m.side m.stock o.new) may).1 in
    waits-is o.stage (and_parts (is_waiting o.stage) (same_terms m.side m.stock o.new) waits).0
