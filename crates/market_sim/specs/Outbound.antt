-- What a message from the market is written as. (OUCH 4.2, "Outbound Messages".)
use Rattle.std.specs.Prelude.{ℕ, List, []}
use Rattle.ouch_codec.specs.declared.outbound.Outbound.{Outbound}
use Rattle.ouch_codec.specs.declared.outbound.Outbound.TheVariants as says
use Rattle.ouch_codec.specs.Layout.{spelled}
use Rattle.ouch_codec.specs.Layouts.{system_event_layout, accepted_layout, replaced_layout, canceled_layout}
use Rattle.ouch_codec.specs.Layouts.{executed_layout, broken_layout, rejected_layout, cancel_pending_layout}
use Rattle.ouch_codec.specs.Layouts.{cancel_reject_layout}
use Rattle.ouch_codec.specs.Rows.{system_event_row, accepted_row, replaced_row, canceled_row, executed_row, broken_row}
use Rattle.ouch_codec.specs.Rows.{rejected_row, cancel_pending_row, cancel_reject_row}

-- a market says no Skipped
abbrev pub outbound_bytes : Outbound → List ℕ
outbound_bytes (says.SystemEvent m) = spelled system_event_layout (system_event_row m)
outbound_bytes (says.Accepted m) = spelled accepted_layout (accepted_row m)
outbound_bytes (says.Replaced m) = spelled replaced_layout (replaced_row m)
outbound_bytes (says.Canceled m) = spelled canceled_layout (canceled_row m)
outbound_bytes (says.Executed m) = spelled executed_layout (executed_row m)
outbound_bytes (says.Broken m) = spelled broken_layout (broken_row m)
outbound_bytes (says.Rejected m) = spelled rejected_layout (rejected_row m)
outbound_bytes (says.CancelPending m) = spelled cancel_pending_layout (cancel_pending_row m)
outbound_bytes (says.CancelReject m) = spelled cancel_reject_layout (cancel_reject_row m)
outbound_bytes says.Skipped = []
