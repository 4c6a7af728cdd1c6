-- The bytes that a message towards the market is written as.
use Rattle.std.specs.Prelude.{ℕ, List}
use Rattle.ouch_codec.specs.declared.inbound.Inbound.{Inbound}
use Rattle.ouch_codec.specs.declared.inbound.Inbound.TheVariants.{Enter, Replace, Cancel}
use Rattle.ouch_codec.specs.Layout.{spelled}
use Rattle.ouch_codec.specs.Layouts.{enter_order_layout, replace_layout, cancel_layout}
use Rattle.ouch_codec.specs.Rows.{enter_order_row, replace_row, cancel_row}

abbrev pub inbound_bytes : Inbound → List ℕ
inbound_bytes (Enter m) = spelled enter_order_layout (enter_order_row m)
inbound_bytes (Replace m) = spelled replace_layout (replace_row m)
inbound_bytes (Cancel m) = spelled cancel_layout (cancel_row m)
