-- What is handed on of the bytes of each message to the market.
use Rattle.std.proofs.Common.{◌≡◌, ℕ, Bool, List, [], true, false, refl, sym, subst}
use Rattle.ouch_codec.specs.declared.layout.Kind.{Kind}
use Rattle.ouch_codec.specs.declared.inbound.enter_order.EnterOrder.{EnterOrder}
use Rattle.ouch_codec.specs.declared.inbound.replace.Replace.{Replace}
use Rattle.ouch_codec.specs.declared.inbound.cancel.Cancel.{Cancel}
use Rattle.ouch_codec.specs.Layout.{spelled, IsMessage, is_message}
use Rattle.ouch_codec.specs.Layouts.{enter_order_layout, replace_layout, cancel_layout}
use Rattle.ouch_codec.specs.Rows.{enter_order_row, replace_row, cancel_row}
use Rattle.ouch_codec.specs.MessageLaws.{IsMessage-passed}
use Rattle.ouch_codec.specs.EnterOrderParts.{SaysEnterOrder, SaysEnterOrder-written}
use Rattle.ouch_codec.specs.ReplaceParts.{SaysReplace, SaysReplace-written}
use Rattle.ouch_codec.specs.CancelParts.{SaysCancel, SaysCancel-written}
use Rattle.day_export.specs.Market.{inbound_said, with_previous, with_price, with_shares}

-- bytes that are no message of a layout don't pass its test
fails : (b : Bool) → (b ≡ true → false ≡ true) → b ≡ false
fails true none = sym (none refl)
fails false none = refl

is_none : (kinds : List Kind) (bytes : List ℕ) → (IsMessage kinds bytes → false ≡ true) → is_message kinds bytes ≡ false
is_none kinds bytes none = fails (is_message kinds bytes) (λ passed. none (IsMessage-passed kinds bytes passed))

enter-parts : (m : EnterOrder) (bytes : List ℕ) → SaysEnterOrder m bytes
    → inbound_said bytes ≡ with_price 79 m.token m.shares m.price
unfolding inbound_said
enter-parts m bytes says = rw (says.is_one, says.token, says.shares, says.price) refl

pub said-enter : (m : EnterOrder) (bytes : List ℕ) → spelled enter_order_layout (enter_order_row m) ≡ bytes
    → inbound_said bytes ≡ with_price 79 m.token m.shares m.price
said-enter m bytes e = enter-parts m bytes (subst (SaysEnterOrder m) e (SaysEnterOrder-written m))

replace-parts : (m : Replace) (bytes : List ℕ) → SaysReplace m bytes → is_message enter_order_layout bytes ≡ false
    → inbound_said bytes ≡ with_previous m.replacement_token m.token m.shares m.price
unfolding inbound_said
replace-parts m bytes says no_order =
    rw (no_order, says.is_one, says.replacement_token, says.token, says.shares, says.price) refl

pub said-replace : (m : Replace) (bytes : List ℕ) → spelled replace_layout (replace_row m) ≡ bytes
    → (IsMessage enter_order_layout bytes → false ≡ true)
    → inbound_said bytes ≡ with_previous m.replacement_token m.token m.shares m.price
said-replace m bytes e no_order =
    replace-parts m bytes (subst (SaysReplace m) e (SaysReplace-written m)) (is_none enter_order_layout bytes no_order)

cancel-parts : (m : Cancel) (bytes : List ℕ) → SaysCancel m bytes → is_message enter_order_layout bytes ≡ false
    → is_message replace_layout bytes ≡ false
    → inbound_said bytes ≡ with_shares 88 m.token m.shares
unfolding inbound_said
cancel-parts m bytes says no_order no_replace =
    rw (no_order, no_replace, says.is_one, says.token, says.shares) refl

pub said-cancel : (m : Cancel) (bytes : List ℕ) → spelled cancel_layout (cancel_row m) ≡ bytes
    → (IsMessage enter_order_layout bytes → false ≡ true) → (IsMessage replace_layout bytes → false ≡ true)
    → inbound_said bytes ≡ with_shares 88 m.token m.shares
said-cancel m bytes e no_order no_replace =
    cancel-parts m bytes (subst (SaysCancel m) e (SaysCancel-written m)) (is_none enter_order_layout bytes no_order)
    (is_none replace_layout bytes no_replace)

pub said-nothing : (bytes : List ℕ) → (IsMessage enter_order_layout bytes → false ≡ true)
    → (IsMessage replace_layout bytes → false ≡ true) → (IsMessage cancel_layout bytes → false ≡ true)
    → inbound_said bytes ≡ []
unfolding inbound_said
said-nothing bytes no_order no_replace no_cancel =
    rw (
      is_none enter_order_layout bytes no_order,
      is_none replace_layout bytes no_replace,
      is_none cancel_layout bytes
          no_cancel,
    ) refl
