-- What each message says, in the order of its layout. The type of a message says nothing further: `tt`.
use Rattle.ouch_codec.specs.declared.inbound.enter_order.EnterOrder.{EnterOrder}
use Rattle.ouch_codec.specs.declared.inbound.replace.Replace.{Replace}
use Rattle.ouch_codec.specs.declared.inbound.cancel.Cancel.{Cancel}
use Rattle.ouch_codec.specs.declared.outbound.system_event.SystemEvent.{SystemEvent}
use Rattle.ouch_codec.specs.declared.outbound.accepted.Accepted.{Accepted}
use Rattle.ouch_codec.specs.declared.outbound.replaced.Replaced.{Replaced}
use Rattle.ouch_codec.specs.declared.outbound.canceled.Canceled.{Canceled}
use Rattle.ouch_codec.specs.declared.outbound.executed.Executed.{Executed}
use Rattle.ouch_codec.specs.declared.outbound.broken.Broken.{Broken}
use Rattle.ouch_codec.specs.declared.outbound.rejected.Rejected.{Rejected}
use Rattle.ouch_codec.specs.declared.outbound.cancel_pending.CancelPending.{CancelPending}
use Rattle.ouch_codec.specs.declared.outbound.cancel_reject.CancelReject.{CancelReject}
use Rattle.ouch_codec.specs.Layout.{RowValues, ◌⨾◌}
use Rattle.ouch_codec.specs.Layouts.{enter_order_layout, replace_layout, cancel_layout, system_event_layout}
use Rattle.ouch_codec.specs.Layouts.{accepted_layout, replaced_layout, canceled_layout, executed_layout, broken_layout}
use Rattle.ouch_codec.specs.Layouts.{rejected_layout, cancel_pending_layout, cancel_reject_layout}

abbrev pub enter_order_row : EnterOrder → RowValues enter_order_layout
enter_order_row m =
    tt
    ⨾ m.token
    ⨾ m.side
    ⨾ m.shares
    ⨾ m.stock
    ⨾ m.price
    ⨾ m.time_in_force
    ⨾ m.firm
    ⨾ m.display
    ⨾ m.capacity
    ⨾ m.intermarket_sweep
    ⨾ m.minimum_quantity
    ⨾ m.cross_type
    ⨾ m.customer_type
    ⨾ tt

abbrev pub replace_row : Replace → RowValues replace_layout
replace_row m =
    tt
    ⨾ m.token
    ⨾ m.replacement_token
    ⨾ m.shares
    ⨾ m.price
    ⨾ m.time_in_force
    ⨾ m.display
    ⨾ m.intermarket_sweep
    ⨾ m.minimum_quantity
    ⨾ tt

abbrev pub cancel_row : Cancel → RowValues cancel_layout
cancel_row m =
    tt
    ⨾ m.token
    ⨾ m.shares
    ⨾ tt

abbrev pub system_event_row : SystemEvent → RowValues system_event_layout
system_event_row m =
    tt
    ⨾ m.timestamp
    ⨾ m.event
    ⨾ tt

abbrev pub accepted_row : Accepted → RowValues accepted_layout
accepted_row m =
    tt
    ⨾ m.timestamp
    ⨾ m.token
    ⨾ m.side
    ⨾ m.shares
    ⨾ m.stock
    ⨾ m.price
    ⨾ m.time_in_force
    ⨾ m.firm
    ⨾ m.display
    ⨾ m.order_reference
    ⨾ m.capacity
    ⨾ m.intermarket_sweep
    ⨾ m.minimum_quantity
    ⨾ m.cross_type
    ⨾ m.order_state
    ⨾ m.bbo_weight
    ⨾ tt

abbrev pub replaced_row : Replaced → RowValues replaced_layout
replaced_row m =
    tt
    ⨾ m.timestamp
    ⨾ m.token
    ⨾ m.side
    ⨾ m.shares
    ⨾ m.stock
    ⨾ m.price
    ⨾ m.time_in_force
    ⨾ m.firm
    ⨾ m.display
    ⨾ m.order_reference
    ⨾ m.capacity
    ⨾ m.intermarket_sweep
    ⨾ m.minimum_quantity
    ⨾ m.cross_type
    ⨾ m.order_state
    ⨾ m.previous_token
    ⨾ m.bbo_weight
    ⨾ tt

abbrev pub canceled_row : Canceled → RowValues canceled_layout
canceled_row m =
    tt
    ⨾ m.timestamp
    ⨾ m.token
    ⨾ m.decrement
    ⨾ m.reason
    ⨾ tt

abbrev pub executed_row : Executed → RowValues executed_layout
executed_row m =
    tt
    ⨾ m.timestamp
    ⨾ m.token
    ⨾ m.shares
    ⨾ m.price
    ⨾ m.liquidity
    ⨾ m.match_number
    ⨾ tt

abbrev pub broken_row : Broken → RowValues broken_layout
broken_row m =
    tt
    ⨾ m.timestamp
    ⨾ m.token
    ⨾ m.match_number
    ⨾ m.reason
    ⨾ tt

abbrev pub rejected_row : Rejected → RowValues rejected_layout
rejected_row m =
    tt
    ⨾ m.timestamp
    ⨾ m.token
    ⨾ m.reason
    ⨾ tt

abbrev pub cancel_pending_row : CancelPending → RowValues cancel_pending_layout
cancel_pending_row m =
    tt
    ⨾ m.timestamp
    ⨾ m.token
    ⨾ tt

abbrev pub cancel_reject_row : CancelReject → RowValues cancel_reject_layout
cancel_reject_row m =
    tt
    ⨾ m.timestamp
    ⨾ m.token
    ⨾ tt
