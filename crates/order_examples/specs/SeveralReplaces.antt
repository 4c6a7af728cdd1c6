-- Exchanges in which several replaces of an order are pending, one behind another, that are written down. The newest
-- turn is first.
use Rattle.std.specs.Prelude.{[], ◌∷◌, codes}
use Rattle.order_law.specs.History.{OrderHistory}
use Rattle.order_machine.specs.fix_fields.Transcript.{message}
use Rattle.order_examples.specs.Transcript.{asked_turn, heard_by_client, faulted, replace_at, replace_message}
use Rattle.order_examples.specs.Transcript.{cancel_message, accepted_message, replaced_message, replaced_at}
use Rattle.order_examples.specs.Transcript.{executed_message, canceled_message, rejected_message}
use Rattle.order_examples.specs.Transcript.{cancel_pending_message, cancel_reject_message}
use Rattle.order_examples.specs.Exchanges.{four_unanswered, replace_asked_while_waiting, replace_pending}

-- a second replace, which names the first one's id, goes from the first one's token
abbrev pub two_replaces_pending : OrderHistory
two_replaces_pending =
    asked_turn (codes "35=G|41=A2|11=A3|38=400|40=2|44=23.5")
    (codes "35=8|37=1|11=A3|41=A2|17=4|150=E|39=E|55=INTC|54=1|38=300|44=23.45|151=300|14=0|6=0")
    (replace_at 235000 2 3 400 ∷ [])
    ∷ replace_pending

-- a third, from the token of the second
abbrev pub three_replaces_pending : OrderHistory
three_replaces_pending =
    asked_turn (codes "35=G|41=A3|11=A4|38=450|40=2|44=23.6")
    (codes "35=8|37=1|11=A4|41=A3|17=5|150=E|39=E|55=INTC|54=1|38=300|44=23.45|151=300|14=0|6=0")
    (replace_at 236000 3 4 450 ∷ [])
    ∷ two_replaces_pending

-- and a fourth, from that of the third
abbrev pub four_replaces_pending : OrderHistory
four_replaces_pending =
    asked_turn (codes "35=G|41=A4|11=A5|38=600|40=2|44=23.7")
    (codes "35=8|37=1|11=A5|41=A4|17=6|150=E|39=E|55=INTC|54=1|38=300|44=23.45|151=300|14=0|6=0")
    (replace_at 237000 4 5 600 ∷ [])
    ∷ three_replaces_pending

-- a cancel behind them asks for the live token and for each of theirs
abbrev pub four_replaces_and_a_cancel : OrderHistory
four_replaces_and_a_cancel =
    asked_turn (codes "35=F|41=A5|11=A6")
    (codes "35=8|37=1|11=A6|41=A5|17=7|150=6|39=6|55=INTC|54=1|38=300|44=23.45|151=300|14=0|6=0")
    (cancel_message 1 ∷ cancel_message 2 ∷ cancel_message 3 ∷ cancel_message 4 ∷ cancel_message 5 ∷ [])
    ∷ four_replaces_pending

-- a cancel behind two
abbrev pub two_replaces_and_a_cancel : OrderHistory
two_replaces_and_a_cancel =
    asked_turn (codes "35=F|41=A3|11=A4")
    (codes "35=8|37=1|11=A4|41=A3|17=5|150=6|39=6|55=INTC|54=1|38=300|44=23.45|151=300|14=0|6=0")
    (cancel_message 1 ∷ cancel_message 2 ∷ cancel_message 3 ∷ [])
    ∷ two_replaces_pending

-- a fifth has to wait; once the oldest is done there is room for one more, and for no other
abbrev pub fifth_replace_has_to_wait : OrderHistory
fifth_replace_has_to_wait =
    asked_turn (codes "35=G|41=A7|11=A8|38=800|40=2|44=23.45")
    (codes "35=9|37=1|11=A8|41=A7|39=E|434=2|102=3|58=already pending")
    []
    ∷ asked_turn (codes "35=G|41=A5|11=A7|38=700|40=2|44=23.45")
    (codes "35=8|37=1|11=A7|41=A5|17=8|150=E|39=E|55=INTC|54=1|38=500|44=23.45|151=500|14=0|6=0")
    (replace_message 5 6 700 ∷ [])
    ∷ heard_by_client (replaced_message 2 1 500 (codes "L"))
    (message (codes "35=8|37=1|11=A2|41=A1|17=7|150=5|39=E|55=INTC|54=1|38=500|44=23.45|151=500|14=0|6=0")
    ∷ [])
    ∷ asked_turn (codes "35=G|41=A5|11=A6|38=700|40=2|44=23.45")
    (codes "35=9|37=1|11=A6|41=A5|39=E|434=2|102=3|58=already pending")
    []
    ∷ four_replaces_pending

-- all four are done, the oldest first: 39 is E until the last one is
abbrev pub four_replaces_done_in_order : OrderHistory
four_replaces_done_in_order =
    heard_by_client (replaced_at 237000 5 4 600)
    (message (codes "35=8|37=1|11=A5|41=A4|17=10|150=5|39=0|55=INTC|54=1|38=600|44=23.7|151=600|14=0|6=0")
    ∷ [])
    ∷ heard_by_client (replaced_at 236000 4 3 450)
    (message (codes "35=8|37=1|11=A4|41=A3|17=9|150=5|39=E|55=INTC|54=1|38=450|44=23.6|151=450|14=0|6=0")
    ∷ [])
    ∷ heard_by_client (replaced_at 235000 3 2 400)
    (message (codes "35=8|37=1|11=A3|41=A2|17=8|150=5|39=E|55=INTC|54=1|38=400|44=23.5|151=400|14=0|6=0")
    ∷ [])
    ∷ heard_by_client (replaced_at 234500 2 1 500)
    (message (codes "35=8|37=1|11=A2|41=A1|17=7|150=5|39=E|55=INTC|54=1|38=500|44=23.45|151=500|14=0|6=0")
    ∷ [])
    ∷ four_replaces_pending

-- the oldest is rejected, and each one behind it falls: 39 counts those that are still to be told
abbrev pub four_rejected_at_once : OrderHistory
four_rejected_at_once =
    heard_by_client (rejected_message 2 (codes "X"))
    (message (codes "35=9|37=1|11=A2|41=A1|39=E|434=2|102=2|58=X")
    ∷ message (codes "35=9|37=1|11=A3|41=A2|39=E|434=2|102=2|58=earlier replace rejected")
    ∷ message (codes "35=9|37=1|11=A4|41=A3|39=E|434=2|102=2|58=earlier replace rejected")
    ∷ message (codes "35=9|37=1|11=A5|41=A4|39=0|434=2|102=2|58=earlier replace rejected")
    ∷ [])
    ∷ four_replaces_pending

-- the oldest is done, then the second rejected: the third and the fourth fall
abbrev pub second_of_four_rejected : OrderHistory
second_of_four_rejected =
    heard_by_client (rejected_message 3 (codes "Y"))
    (message (codes "35=9|37=1|11=A3|41=A2|39=E|434=2|102=2|58=Y")
    ∷ message (codes "35=9|37=1|11=A4|41=A3|39=E|434=2|102=2|58=earlier replace rejected")
    ∷ message (codes "35=9|37=1|11=A5|41=A4|39=0|434=2|102=2|58=earlier replace rejected")
    ∷ [])
    ∷ heard_by_client (replaced_message 2 1 500 (codes "L"))
    (message (codes "35=8|37=1|11=A2|41=A1|17=7|150=5|39=E|55=INTC|54=1|38=500|44=23.45|151=500|14=0|6=0")
    ∷ [])
    ∷ four_replaces_pending

-- the oldest is rejected under a cancel, which goes on; then all is cancelled
abbrev pub all_fall_under_a_cancel : OrderHistory
all_fall_under_a_cancel =
    heard_by_client (canceled_message 1 300 (codes "U"))
    (message (codes "35=8|37=1|11=A4|41=A3|17=6|150=4|39=4|55=INTC|54=1|38=300|44=23.45|151=0|14=0|6=0|58=U")
    ∷ [])
    ∷ heard_by_client (rejected_message 2 (codes "X"))
    (message (codes "35=9|37=1|11=A2|41=A1|39=6|434=2|102=2|58=X")
    ∷ message (codes "35=9|37=1|11=A3|41=A2|39=6|434=2|102=2|58=earlier replace rejected")
    ∷ [])
    ∷ two_replaces_and_a_cancel

-- the cancel of the live token is rejected, and then the oldest replace: the fall takes the last Cancel Orders with it,
-- so that the cancel's reject comes last
abbrev pub fall_answers_the_cancel : OrderHistory
fall_answers_the_cancel =
    heard_by_client (rejected_message 2 (codes "X"))
    (message (codes "35=9|37=1|11=A2|41=A1|39=6|434=2|102=2|58=X")
    ∷ message (codes "35=9|37=1|11=A3|41=A2|39=6|434=2|102=2|58=earlier replace rejected")
    ∷ message (codes "35=9|37=1|11=A4|41=A3|39=6|434=2|102=2|58=earlier replace rejected")
    ∷ message (codes "35=9|37=1|11=A5|41=A4|39=6|434=2|102=2|58=earlier replace rejected")
    ∷ message (codes "35=9|37=1|11=A6|41=A5|39=0|434=1|102=2|58=cancel rejected by market")
    ∷ [])
    ∷ heard_by_client (cancel_reject_message 1) []
    ∷ four_replaces_and_a_cancel

-- the other way round: the Cancel Order of the live token is the last one then
abbrev pub cancel_reject_after_a_fall : OrderHistory
cancel_reject_after_a_fall =
    heard_by_client (cancel_reject_message 1)
    (message (codes "35=9|37=1|11=A4|41=A3|39=0|434=1|102=2|58=cancel rejected by market")
    ∷ [])
    ∷ heard_by_client (rejected_message 2 (codes "X"))
    (message (codes "35=9|37=1|11=A2|41=A1|39=6|434=2|102=2|58=X")
    ∷ message (codes "35=9|37=1|11=A3|41=A2|39=6|434=2|102=2|58=earlier replace rejected")
    ∷ [])
    ∷ two_replaces_and_a_cancel

-- it is filled: each request is too late, in order of acceptance
abbrev pub filled_with_four_and_a_cancel : OrderHistory
filled_with_four_and_a_cancel =
    heard_by_client (executed_message 1 300 234500 7)
    (message (codes "35=8|37=1|11=A1|17=8|150=F|39=6|55=INTC|54=1|38=300|44=23.45|32=300|31=23.45|151=0|14=300|6=23.45")
    ∷ message (codes "35=9|37=1|11=A2|41=A1|39=6|434=2|102=0|58=too late")
    ∷ message (codes "35=9|37=1|11=A3|41=A2|39=6|434=2|102=0|58=too late")
    ∷ message (codes "35=9|37=1|11=A4|41=A3|39=6|434=2|102=0|58=too late")
    ∷ message (codes "35=9|37=1|11=A5|41=A4|39=6|434=2|102=0|58=too late")
    ∷ message (codes "35=9|37=1|11=A6|41=A5|39=2|434=1|102=0|58=too late")
    ∷ [])
    ∷ four_replaces_and_a_cancel

-- all is cancelled: the report is on the cancel, and the replaces are too late
abbrev pub cancelled_with_four_and_a_cancel : OrderHistory
cancelled_with_four_and_a_cancel =
    heard_by_client (canceled_message 1 300 (codes "U"))
    (message (codes "35=8|37=1|11=A6|41=A5|17=8|150=4|39=E|55=INTC|54=1|38=300|44=23.45|151=0|14=0|6=0|58=U")
    ∷ message (codes "35=9|37=1|11=A2|41=A1|39=E|434=2|102=0|58=too late")
    ∷ message (codes "35=9|37=1|11=A3|41=A2|39=E|434=2|102=0|58=too late")
    ∷ message (codes "35=9|37=1|11=A4|41=A3|39=E|434=2|102=0|58=too late")
    ∷ message (codes "35=9|37=1|11=A5|41=A4|39=4|434=2|102=0|58=too late")
    ∷ [])
    ∷ four_replaces_and_a_cancel

-- the oldest is done and leaves nothing open: the cancel is answered, the others are too late
abbrev pub dead_with_four_and_a_cancel : OrderHistory
dead_with_four_and_a_cancel =
    heard_by_client (replaced_message 2 1 500 (codes "D"))
    (message (codes "35=8|37=1|11=A2|41=A1|17=8|150=5|39=6|55=INTC|54=1|38=500|44=23.45|151=500|14=0|6=0")
    ∷ message (codes "35=8|37=1|11=A6|41=A5|17=9|150=4|39=E|55=INTC|54=1|38=500|44=23.45|151=0|14=0|6=0")
    ∷ message (codes "35=9|37=1|11=A3|41=A2|39=E|434=2|102=0|58=too late")
    ∷ message (codes "35=9|37=1|11=A4|41=A3|39=E|434=2|102=0|58=too late")
    ∷ message (codes "35=9|37=1|11=A5|41=A4|39=4|434=2|102=0|58=too late")
    ∷ [])
    ∷ four_replaces_and_a_cancel

-- after a fall the next replace goes from the live token again, and the ids that fell name no order
abbrev pub replaced_after_all_fell : OrderHistory
replaced_after_all_fell =
    heard_by_client (replaced_message 4 1 350 (codes "L"))
    (message (codes "35=8|37=1|11=A5|41=A1|17=6|150=5|39=0|55=INTC|54=1|38=350|44=23.45|151=350|14=0|6=0")
    ∷ [])
    ∷ asked_turn (codes "35=G|41=A1|11=A5|38=350|40=2|44=23.45")
    (codes "35=8|37=1|11=A5|41=A1|17=5|150=E|39=E|55=INTC|54=1|38=300|44=23.45|151=300|14=0|6=0")
    (replace_message 1 4 350 ∷ [])
    ∷ asked_turn (codes "35=F|41=A3|11=A4")
    (codes "35=9|37=NONE|11=A4|41=A3|39=8|434=1|102=1|58=unknown order")
    []
    ∷ heard_by_client (rejected_message 2 (codes "X"))
    (message (codes "35=9|37=1|11=A2|41=A1|39=E|434=2|102=2|58=X")
    ∷ message (codes "35=9|37=1|11=A3|41=A2|39=0|434=2|102=2|58=earlier replace rejected")
    ∷ [])
    ∷ two_replaces_pending

-- replaces are asked before the market's Accepted, and fall before it
abbrev pub fall_while_it_waits : OrderHistory
fall_while_it_waits =
    heard_by_client (accepted_message 1 300 (codes "INTC    ") (codes "L"))
    (message (codes "35=8|37=1|11=A1|17=4|150=0|39=0|55=INTC|54=1|38=300|44=23.45|151=300|14=0|6=0")
    ∷ [])
    ∷ heard_by_client (rejected_message 2 (codes "X"))
    (message (codes "35=9|37=1|11=A2|41=A1|39=E|434=2|102=2|58=X")
    ∷ message (codes "35=9|37=1|11=A3|41=A2|39=A|434=2|102=2|58=earlier replace rejected")
    ∷ [])
    ∷ asked_turn (codes "35=G|41=A2|11=A3|38=400|40=2|44=23.5")
    (codes "35=8|37=1|11=A3|41=A2|17=3|150=E|39=E|55=INTC|54=1|38=300|44=23.45|151=300|14=0|6=0")
    (replace_at 235000 2 3 400 ∷ [])
    ∷ replace_asked_while_waiting

-- a Replaced or Rejected of a replace that isn't the oldest is a fault, from whichever token
abbrev pub replaces_out_of_order : OrderHistory
replaces_out_of_order =
    faulted (rejected_message 3 (codes "X")) 3
    ∷ faulted (replaced_message 3 2 400 (codes "L")) 3
    ∷ faulted (replaced_message 3 1 400 (codes "L")) 3
    ∷ two_replaces_pending

-- and so is a Rejected of one that fell, or a trade on its token, where the market having its cancel is none
abbrev pub rejected_after_it_fell : OrderHistory
rejected_after_it_fell =
    faulted (executed_message 3 100 234500 7) 3
    ∷ heard_by_client (cancel_pending_message 3) []
    ∷ faulted (rejected_message 3 (codes "X")) 3
    ∷ heard_by_client (rejected_message 2 (codes "X"))
    (message (codes "35=9|37=1|11=A2|41=A1|39=E|434=2|102=2|58=X")
    ∷ message (codes "35=9|37=1|11=A3|41=A2|39=0|434=2|102=2|58=earlier replace rejected")
    ∷ [])
    ∷ two_replaces_pending

-- a trade on the live token between two: 38 is what is executed and what the Replaced leaves open, and not the total
-- that was asked
abbrev pub trades_between_replaces : OrderHistory
trades_between_replaces =
    heard_by_client (replaced_message 2 1 350 (codes "L"))
    (message (codes "35=8|37=1|11=A2|41=A1|17=6|150=5|39=E|55=INTC|54=1|38=450|44=23.45|151=350|14=100|6=23.45")
    ∷ [])
    ∷ heard_by_client (executed_message 1 100 234500 7)
    (message (codes "35=8|37=1|11=A1|17=5|150=F|39=E|55=INTC|54=1|38=300|44=23.45|32=100|31=23.45|151=200|14=100|6=23.45")
    ∷ [])
    ∷ two_replaces_pending

-- the other order of the port is to be replaced too, while it waits
abbrev pub replaces_of_two_orders : OrderHistory
replaces_of_two_orders =
    asked_turn (codes "35=G|41=B1|11=B2|38=20|40=2|44=1.5")
    (codes "35=8|37=2|11=B2|41=B1|17=6|150=E|39=E|55=MSFT|54=2|38=10|44=1.5|151=10|14=0|6=0")
    (replace_at 15000 2 4 20 ∷ [])
    ∷ four_unanswered

-- a replace that is rejected takes none of another order with it
abbrev pub fall_beside_another_order : OrderHistory
fall_beside_another_order =
    heard_by_client (rejected_message 3 (codes "X"))
    (message (codes "35=9|37=1|11=A2|41=A1|39=6|434=2|102=2|58=X")
    ∷ [])
    ∷ replaces_of_two_orders
