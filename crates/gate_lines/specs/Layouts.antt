-- What is shown of a message to the market, by the layouts alone: each field in its place, with a space before it and
-- without padding, numbers in decimal.
--
-- Source: OUCH 4.2, "Data Types" and "Inbound Messages".
use Rattle.std.specs.Prelude.{ℕ, List, [], ◌∷◌, ◌++◌, take, drop, if◌then◌else◌}
use Rattle.std.specs.Int.{w32, w64, from_be_bytes}
use Rattle.ouch_codec.specs.declared.layout.Kind.{Kind}
use Rattle.ouch_codec.specs.declared.layout.Kind.TheVariants.{Constant, SideLetter, OrderStateLetter, Printable, Text}
use Rattle.ouch_codec.specs.declared.layout.Kind.TheVariants.{Shares, IntendedShares, Number, LongNumber}
use Rattle.ouch_codec.specs.Layout.{width, is_message}
use Rattle.ouch_codec.specs.Layouts.{enter_order_layout, replace_layout, cancel_layout}
use Rattle.gate_lines.specs.Words.{word, shown_number}

-- a field of this kind, by its bytes
abbrev pub shown_layout_field : Kind → List ℕ → List ℕ
shown_layout_field (Constant byte) bytes = word bytes
shown_layout_field SideLetter bytes = word bytes
shown_layout_field OrderStateLetter bytes = word bytes
shown_layout_field Printable bytes = word bytes
shown_layout_field (Text count) bytes = word bytes
shown_layout_field Shares bytes = shown_number (from_be_bytes w32 bytes)
shown_layout_field IntendedShares bytes = shown_number (from_be_bytes w32 bytes)
shown_layout_field Number bytes = shown_number (from_be_bytes w32 bytes)
shown_layout_field LongNumber bytes = shown_number (from_be_bytes w64 bytes)

-- the fields of a message with this layout, one after another
abbrev pub shown_layout_fields : List Kind → List ℕ → List ℕ
shown_layout_fields [] bytes = []
shown_layout_fields (kind ∷ kinds) bytes = shown_layout_field kind (take (width kind) bytes)
    ++ shown_layout_fields kinds (drop (width kind) bytes)

-- what is shown of these bytes: of an Enter Order, a Replace or a Cancel all its fields, of any others nothing
unfoldable pub shown_message : List ℕ → List ℕ
shown_message bytes =
    if is_message enter_order_layout bytes then shown_layout_fields enter_order_layout bytes
    else if is_message replace_layout bytes then shown_layout_fields replace_layout bytes
    else if is_message cancel_layout bytes then shown_layout_fields cancel_layout bytes
    else []
