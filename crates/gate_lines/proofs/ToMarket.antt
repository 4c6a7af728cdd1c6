-- What is shown of the bytes of each message to the market.
use Rattle.std.proofs.Common.{◌≡◌, ℕ, Bool, List, [], ◌++◌, true, false, refl, sym, ap, ◌∙◌, append_assoc, append-nil}
use Rattle.std.specs.Prelude.{codes}
use Rattle.ouch_codec.specs.declared.layout.Kind.{Kind}
use Rattle.ouch_codec.specs.declared.inbound.enter_order.EnterOrder.{EnterOrder}
use Rattle.ouch_codec.specs.declared.inbound.replace.Replace.{Replace}
use Rattle.ouch_codec.specs.declared.inbound.cancel.Cancel.{Cancel}
use Rattle.ouch_codec.specs.Layout.{spelled, IsMessage, is_message}
use Rattle.ouch_codec.specs.Layouts.{enter_order_layout, replace_layout, cancel_layout}
use Rattle.ouch_codec.specs.Rows.{enter_order_row, replace_row, cancel_row}
use Rattle.ouch_codec.specs.MessageLaws.{IsMessage-passed}
use Rattle.ouch_codec.specs.LaidOut.{is_message-written}
use Rattle.ouch_codec.specs.EnterOrderLaws.{enter_order_laid_out}
use Rattle.ouch_codec.specs.ReplaceLaws.{replace_laid_out}
use Rattle.ouch_codec.specs.CancelLaws.{cancel_laid_out}
use Rattle.ouch_codec.specs.Letters.{side_letter}
use Rattle.gate_lines.specs.Words.{word, letter, shown_number}
use Rattle.gate_lines.specs.Layouts.{shown_message}
use Rattle.gate_lines.specs.Messages.{shown_enter_order, shown_replace, shown_cancel}
use Rattle.gate_lines.proofs.Layouts.{shown_row, shown-written}

-- bytes that are no message of a layout don't pass its test
fails : (b : Bool) → (b ≡ true → false ≡ true) → b ≡ false
fails true none = sym (none refl)
fails false none = refl

is_none : (kinds : List Kind) (bytes : List ℕ) → (IsMessage kinds bytes → false ≡ true) → is_message kinds bytes ≡ false
is_none kinds bytes none = fails (is_message kinds bytes) (λ passed. none (IsMessage-passed kinds bytes passed))

one_after_another_3 : (a b c : List ℕ) → a ++ (b ++ (c ++ [])) ≡ a ++ b ++ c
one_after_another_3 a b c = simp (append_assoc, append-nil)

one_after_another_9 : (a b c d e f g h i : List ℕ)
    → a ++ (b ++ (c ++ (d ++ (e ++ (f ++ (g ++ (h ++ (i ++ [])))))))) ≡ a ++ b ++ c ++ d ++ e ++ f ++ g ++ h ++ i
one_after_another_9 a b c d e f g h i = simp (append_assoc, append-nil)

one_after_another_14 : (a b c d e f g h i j k l m n : List ℕ)
    → a ++ (b ++ (c ++ (d ++ (e ++ (f ++ (g ++ (h ++ (i ++ (j ++ (k ++ (l ++ (m ++ (n ++ [])))))))))))))
    ≡ (a ++ b ++ c ++ d ++ e ++ f ++ g) ++ (h ++ i ++ j ++ k ++ l ++ m ++ n)
one_after_another_14 a b c d e f g h i j k l m n = simp (append_assoc, append-nil)

enter_row : (m : EnterOrder) → shown_row enter_order_layout (enter_order_row m) ≡ shown_enter_order m
enter_row m =
    one_after_another_14 (codes " O") (word m.token) (letter (side_letter m.side)) (shown_number m.shares) (word m.stock) (shown_number m.price) (shown_number m.time_in_force)
    (word m.firm) (letter m.display) (letter m.capacity) (letter m.intermarket_sweep) (shown_number m.minimum_quantity)
    (letter m.cross_type) (letter m.customer_type)

replace_row_shown : (m : Replace) → shown_row replace_layout (replace_row m) ≡ shown_replace m
replace_row_shown m =
    one_after_another_9 (codes " U") (word m.token) (word m.replacement_token) (shown_number m.shares) (shown_number m.price) (shown_number m.time_in_force) (letter m.display) (letter m.intermarket_sweep) (shown_number m.minimum_quantity)

cancel_row_shown : (m : Cancel) → shown_row cancel_layout (cancel_row m) ≡ shown_cancel m
cancel_row_shown m = one_after_another_3 (codes " X") (word m.token) (shown_number m.shares)

pub shown-enter : (m : EnterOrder) (bytes : List ℕ) → spelled enter_order_layout (enter_order_row m) ≡ bytes
    → shown_message bytes ≡ shown_enter_order m
unfolding shown_message
shown-enter m bytes e =
    let passes : is_message enter_order_layout bytes ≡ true = ap (is_message enter_order_layout) (sym e)
    ∙ is_message-written enter_order_laid_out m in
    rw passes (shown-written enter_order_laid_out m bytes e ∙ enter_row m)

pub shown-replace : (m : Replace) (bytes : List ℕ) → spelled replace_layout (replace_row m) ≡ bytes
    → (IsMessage enter_order_layout bytes → false ≡ true) → shown_message bytes ≡ shown_replace m
unfolding shown_message
shown-replace m bytes e no_order =
    let passes : is_message replace_layout bytes ≡ true = ap (is_message replace_layout) (sym e)
    ∙ is_message-written replace_laid_out m in
    rw (is_none enter_order_layout bytes no_order, passes)
    (shown-written replace_laid_out m bytes e ∙ replace_row_shown m)

pub shown-cancel : (m : Cancel) (bytes : List ℕ) → spelled cancel_layout (cancel_row m) ≡ bytes
    → (IsMessage enter_order_layout bytes → false ≡ true) → (IsMessage replace_layout bytes → false ≡ true)
    → shown_message bytes ≡ shown_cancel m
unfolding shown_message
shown-cancel m bytes e no_order no_replace =
    let passes : is_message cancel_layout bytes ≡ true = ap (is_message cancel_layout) (sym e)
    ∙ is_message-written cancel_laid_out m in
    rw (is_none enter_order_layout bytes no_order, is_none replace_layout bytes no_replace, passes)
    (shown-written cancel_laid_out m bytes e ∙ cancel_row_shown m)

pub shown-nothing : (bytes : List ℕ) → (IsMessage enter_order_layout bytes → false ≡ true)
    → (IsMessage replace_layout bytes → false ≡ true) → (IsMessage cancel_layout bytes → false ≡ true)
    → shown_message bytes ≡ []
unfolding shown_message
shown-nothing bytes no_order no_replace no_cancel =
    rw (
      is_none enter_order_layout bytes no_order,
      is_none replace_layout bytes no_replace,
      is_none cancel_layout bytes
          no_cancel,
    ) refl
