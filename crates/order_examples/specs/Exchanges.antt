-- Exchanges that are written down. The newest turn is first.
use Rattle.std.specs.Prelude.{[], ◌∷◌, codes}
use Rattle.order_law.specs.Verdicts.{Up, Down, Ended, Faulted}
use Rattle.order_law.specs.History.{OrderHistory}
use Rattle.order_machine.specs.fix_fields.Field.{Message}
use Rattle.order_machine.specs.fix_fields.Transcript.{message}
use Rattle.order_examples.specs.Transcript.{asked_turn, asked_by, heard_by_client, heard_by_client_on, faulted}
use Rattle.order_examples.specs.Transcript.{faulted_on, enter_as, enter_message, enter_sale_message}
use Rattle.order_examples.specs.Transcript.{enter_whole_message, replace_message, cancel_message, accepted_message}
use Rattle.order_examples.specs.Transcript.{accepted_at, replaced_message}
use Rattle.order_examples.specs.Transcript.{replaced_at, executed_message, canceled_message, broken_message}
use Rattle.order_examples.specs.Transcript.{rejected_message, cancel_pending_message, cancel_reject_message}
use Rattle.order_examples.specs.Transcript.{system_message}

-- an order of 300 at 23.45 is entered
abbrev pub only_entered : OrderHistory
only_entered =
    asked_turn (codes "35=D|11=A1|54=1|55=INTC|38=300|40=2|44=23.45|59=0|528=P")
    (codes "35=8|37=1|11=A1|17=1|150=A|39=A|55=INTC|54=1|38=300|44=23.45|151=300|14=0|6=0")
    (enter_message 1 300 ∷ [])
    ∷ []

-- an order of 300 at 23.45, entered and accepted
abbrev pub entered_and_accepted : OrderHistory
entered_and_accepted =
    heard_by_client (accepted_message 1 300 (codes "INTC    ") (codes "L"))
    (message (codes "35=8|37=1|11=A1|17=2|150=0|39=0|55=INTC|54=1|38=300|44=23.45|151=300|14=0|6=0")
    ∷ [])
    ∷ only_entered

-- then a replace by 500 is asked
abbrev pub replace_pending : OrderHistory
replace_pending =
    asked_turn (codes "35=G|41=A1|11=A2|38=500|40=2|44=23.45")
    (codes "35=8|37=1|11=A2|41=A1|17=3|150=E|39=E|55=INTC|54=1|38=300|44=23.45|151=300|14=0|6=0")
    (replace_message 1 2 500 ∷ [])
    ∷ entered_and_accepted

-- two trades fill it
abbrev pub order_is_filled : OrderHistory
order_is_filled =
    heard_by_client (executed_message 1 200 234400 8)
    (message (codes "35=8|37=1|11=A1|17=4|150=F|39=2|55=INTC|54=1|38=300|44=23.45|32=200|31=23.44|151=0|14=300|6=23.4433")
    ∷ [])
    ∷ heard_by_client (executed_message 1 100 234500 7)
    (message (codes "35=8|37=1|11=A1|17=3|150=F|39=1|55=INTC|54=1|38=300|44=23.45|32=100|31=23.45|151=200|14=100|6=23.45")
    ∷ [])
    ∷ entered_and_accepted

-- it fills while a cancel is pending, which then is too late
abbrev pub filled_while_cancel_pending : OrderHistory
filled_while_cancel_pending =
    heard_by_client (executed_message 1 300 234500 7)
    (message (codes "35=8|37=1|11=A1|17=4|150=F|39=6|55=INTC|54=1|38=300|44=23.45|32=300|31=23.45|151=0|14=300|6=23.45")
    ∷ message (codes "35=9|37=1|11=A2|41=A1|39=2|434=1|102=0|58=too late")
    ∷ [])
    ∷ asked_turn (codes "35=F|41=A1|11=A2")
    (codes "35=8|37=1|11=A2|41=A1|17=3|150=6|39=6|55=INTC|54=1|38=300|44=23.45|151=300|14=0|6=0")
    (cancel_message 1 ∷ [])
    ∷ entered_and_accepted

-- it is replaced, and a trade crosses the replace; then a total that isn't above what is executed, and one that is
abbrev pub replaced_after_a_trade : OrderHistory
replaced_after_a_trade =
    asked_turn (codes "35=G|41=A2|11=A4|38=101|40=2|44=23.45")
    (codes "35=8|37=1|11=A4|41=A2|17=6|150=E|39=E|55=INTC|54=1|38=500|44=23.45|151=400|14=100|6=23.45")
    (replace_message 2 3 101 ∷ [])
    ∷ asked_turn (codes "35=G|41=A2|11=A3|38=100|40=2|44=23.45")
    (codes "35=9|37=1|11=A3|41=A2|39=1|434=2|102=99|58=total not above executed")
    ([])
    ∷ heard_by_client (replaced_message 2 1 400 (codes "L"))
    (message (codes "35=8|37=1|11=A2|41=A1|17=5|150=5|39=1|55=INTC|54=1|38=500|44=23.45|151=400|14=100|6=23.45")
    ∷ [])
    ∷ heard_by_client (executed_message 1 100 234500 7)
    (message (codes "35=8|37=1|11=A1|17=4|150=F|39=E|55=INTC|54=1|38=300|44=23.45|32=100|31=23.45|151=200|14=100|6=23.45")
    ∷ [])
    ∷ replace_pending

-- a cancel while a replace is pending asks for both tokens
abbrev pub cancelled_across_a_replace : OrderHistory
cancelled_across_a_replace =
    asked_turn (codes "35=F|41=A2|11=A3")
    (codes "35=8|37=1|11=A3|41=A2|17=4|150=6|39=6|55=INTC|54=1|38=300|44=23.45|151=300|14=0|6=0")
    (cancel_message 1 ∷ cancel_message 2 ∷ [])
    ∷ replace_pending

-- the replace is answered, then the cancel
abbrev pub cancelled_after_it_is_replaced : OrderHistory
cancelled_after_it_is_replaced =
    heard_by_client (canceled_message 2 500 (codes "U"))
    (message (codes "35=8|37=1|11=A3|41=A2|17=6|150=4|39=4|55=INTC|54=1|38=500|44=23.45|151=0|14=0|6=0|58=U")
    ∷ [])
    ∷ heard_by_client (replaced_message 2 1 500 (codes "L"))
    (message (codes "35=8|37=1|11=A2|41=A1|17=5|150=5|39=6|55=INTC|54=1|38=500|44=23.45|151=500|14=0|6=0")
    ∷ [])
    ∷ cancelled_across_a_replace

-- it fills while both are pending: each is too late, in order of acceptance
abbrev pub filled_across_replace_and_cancel : OrderHistory
filled_across_replace_and_cancel =
    heard_by_client (executed_message 1 300 234500 7)
    (message (codes "35=8|37=1|11=A1|17=5|150=F|39=6|55=INTC|54=1|38=300|44=23.45|32=300|31=23.45|151=0|14=300|6=23.45")
    ∷ message (codes "35=9|37=1|11=A2|41=A1|39=6|434=2|102=0|58=too late")
    ∷ message (codes "35=9|37=1|11=A3|41=A2|39=2|434=1|102=0|58=too late")
    ∷ [])
    ∷ cancelled_across_a_replace

-- the market cancels it while a replace is pending
abbrev pub closed_by_the_market : OrderHistory
closed_by_the_market =
    heard_by_client (canceled_message 1 300 (codes "Z")) (closing ∷ too_late ∷ [])
    ∷ replace_pending
  where
    closing : Message
    closing = message (codes "35=8|37=1|11=A1|17=4|150=4|39=E|55=INTC|54=1|38=300|44=23.45|151=0|14=0|6=0|58=Z")

    too_late : Message
    too_late = message (codes "35=9|37=1|11=A2|41=A1|39=4|434=2|102=0|58=too late")

-- the market rejects the replace
abbrev pub replace_rejected : OrderHistory
replace_rejected =
    heard_by_client (rejected_message 2 (codes "X"))
    (message (codes "35=9|37=1|11=A2|41=A1|39=0|434=2|102=2|58=X")
    ∷ [])
    ∷ replace_pending

-- its ClOrdID comes again, and then the market takes 100 away
abbrev pub asked_twice : OrderHistory
asked_twice =
    heard_by_client (canceled_message 1 100 (codes "T"))
    (message (codes "35=8|37=1|11=A1|17=4|150=D|39=0|378=5|55=INTC|54=1|38=200|44=23.45|151=200|14=0|6=0|58=T")
    ∷ [])
    ∷ asked_turn (codes "35=D|11=A1|54=1|55=INTC|38=300|40=2|44=23.45|59=0|528=P")
    (codes "35=8|37=2|11=A1|17=3|150=8|39=8|103=6|55=INTC|54=1|38=300|44=23.45|151=0|14=0|6=0|58=duplicate ClOrdID")
    ([])
    ∷ entered_and_accepted

-- a trade of the filled order is broken, and can't be broken again
abbrev pub broken_after_it_is_filled : OrderHistory
broken_after_it_is_filled =
    faulted (broken_message 1 7 (codes "E")) 3
    ∷ heard_by_client (broken_message 1 7 (codes "E"))
    (message (codes "35=8|37=1|11=A1|17=5|19=3|150=H|39=4|55=INTC|54=1|38=300|44=23.45|151=0|14=200|6=23.44|58=E")
    ∷ [])
    ∷ order_is_filled

-- it is dead as it is accepted
abbrev pub dead_as_it_is_accepted : OrderHistory
dead_as_it_is_accepted =
    heard_by_client (accepted_message 1 300 (codes "INTC    ") (codes "D"))
    (message (codes "35=8|37=1|11=A1|17=2|150=0|39=0|55=INTC|54=1|38=300|44=23.45|151=300|14=0|6=0")
    ∷ message (codes "35=8|37=1|11=A1|17=3|150=4|39=4|55=INTC|54=1|38=300|44=23.45|151=0|14=0|6=0")
    ∷ [])
    ∷ only_entered

-- the market rejects it while a cancel is pending
abbrev pub rejected_while_cancel_pending : OrderHistory
rejected_while_cancel_pending =
    heard_by_client (rejected_message 1 (codes "T"))
    (message (codes "35=8|37=1|11=A1|17=3|150=8|39=8|103=99|55=INTC|54=1|38=300|44=23.45|151=0|14=0|6=0|58=T")
    ∷ message (codes "35=9|37=1|11=A2|41=A1|39=8|434=1|102=0|58=too late")
    ∷ [])
    ∷ asked_turn (codes "35=F|41=A1|11=A2")
    (codes "35=8|37=1|11=A2|41=A1|17=2|150=6|39=6|55=INTC|54=1|38=300|44=23.45|151=300|14=0|6=0")
    (cancel_message 1 ∷ [])
    ∷ only_entered

-- a cancel of no order
abbrev pub no_order_of_that_name : OrderHistory
no_order_of_that_name =
    asked_turn (codes "35=F|41=Q|11=A9")
    (codes "35=9|37=NONE|11=A9|41=Q|39=8|434=1|102=1|58=unknown order")
    ([])
    ∷ []

-- a second Accepted is no lawful message
abbrev pub accepted_again : OrderHistory
accepted_again =
    faulted (accepted_message 1 300 (codes "INTC    ") (codes "L")) 3
    ∷ entered_and_accepted

-- a trade of more than is open is none
abbrev pub executed_too_much : OrderHistory
executed_too_much =
    faulted (executed_message 1 301 234500 7) 3
    ∷ entered_and_accepted

-- and the order is what it was: it is open when its cancel is refused
abbrev pub cancel_after_a_fault : OrderHistory
cancel_after_a_fault =
    asked_by 1 (Faulted 3) (codes "35=F|41=A1|11=A2")
    (codes "35=9|37=1|11=A2|41=A1|39=0|434=1|102=2|58=port fault 3")
    ([])
    ∷ executed_too_much

-- the market rejects the cancel
abbrev pub cancel_is_rejected : OrderHistory
cancel_is_rejected =
    heard_by_client (cancel_reject_message 1)
    (message (codes "35=9|37=1|11=A2|41=A1|39=0|434=1|102=2|58=cancel rejected by market")
    ∷ [])
    ∷ asked_turn (codes "35=F|41=A1|11=A2")
    (codes "35=8|37=1|11=A2|41=A1|17=3|150=6|39=6|55=INTC|54=1|38=300|44=23.45|151=300|14=0|6=0")
    (cancel_message 1 ∷ [])
    ∷ entered_and_accepted

-- a replace is asked before the market's Accepted, which comes then
abbrev pub replace_asked_while_waiting : OrderHistory
replace_asked_while_waiting =
    asked_turn (codes "35=G|41=A1|11=A2|38=500|40=2|44=23.45")
    (codes "35=8|37=1|11=A2|41=A1|17=2|150=E|39=E|55=INTC|54=1|38=300|44=23.45|151=300|14=0|6=0")
    (replace_message 1 2 500 ∷ [])
    ∷ only_entered

abbrev pub accepted_with_a_replace_pending : OrderHistory
accepted_with_a_replace_pending =
    heard_by_client (accepted_message 1 300 (codes "INTC    ") (codes "L"))
    (message (codes "35=8|37=1|11=A1|17=3|150=0|39=E|55=INTC|54=1|38=300|44=23.45|151=300|14=0|6=0")
    ∷ [])
    ∷ replace_asked_while_waiting

-- a second order, of another side and stock; a replace of the first, and a cancel: four messages are unanswered
abbrev pub four_unanswered : OrderHistory
four_unanswered =
    asked_turn (codes "35=F|41=A2|11=A3")
    (codes "35=8|37=1|11=A3|41=A2|17=5|150=6|39=6|55=INTC|54=1|38=300|44=23.45|151=300|14=0|6=0")
    (cancel_message 1 ∷ cancel_message 3 ∷ [])
    ∷ asked_turn (codes "35=G|41=A1|11=A2|38=500|40=2|44=23.45")
    (codes "35=8|37=1|11=A2|41=A1|17=4|150=E|39=E|55=INTC|54=1|38=300|44=23.45|151=300|14=0|6=0")
    (replace_message 1 3 500 ∷ [])
    ∷ asked_turn (codes "35=D|11=B1|54=2|55=MSFT|38=10|40=2|44=1.5|59=3")
    (codes "35=8|37=2|11=B1|17=3|150=A|39=A|55=MSFT|54=2|38=10|44=1.5|151=10|14=0|6=0")
    (enter_sale_message 2 ∷ [])
    ∷ entered_and_accepted

-- a cancel while the port is down: it is accepted, and nothing is sent
abbrev pub cancelled_while_down : OrderHistory
cancelled_while_down =
    asked_by 1 Down (codes "35=F|41=A1|11=A2")
    (codes "35=8|37=1|11=A2|41=A1|17=3|150=6|39=6|55=INTC|54=1|38=300|44=23.45|151=300|14=0|6=0")
    ([])
    ∷ entered_and_accepted

-- a port whose market session ended refuses orders
abbrev pub ordered_after_the_end : OrderHistory
ordered_after_the_end =
    asked_by 1 Ended (codes "35=D|11=A1|54=1|55=INTC|38=300|40=2|44=23.45|59=0|528=P")
    (codes "35=8|37=1|11=A1|17=1|150=8|39=8|103=2|55=INTC|54=1|38=300|44=23.45|151=0|14=0|6=0|58=market session ended")
    ([])
    ∷ []

-- port 1 faults by a token that isn't given, and refuses orders from then on; port 2 takes them
abbrev pub ordered_on_a_faulted_port : OrderHistory
ordered_on_a_faulted_port =
    asked_by 3 Up (codes "35=D|11=A1|54=1|55=INTC|38=300|40=2|44=23.45|59=0|528=P")
    (codes "35=8|37=2|11=A1|17=2|150=A|39=A|55=INTC|54=1|38=300|44=23.45|151=300|14=0|6=0")
    (enter_message 1 300 ∷ [])
    ∷ asked_by 1 (Faulted 2) (codes "35=D|11=A1|54=1|55=INTC|38=300|40=2|44=23.45|59=0|528=P")
    (codes "35=8|37=1|11=A1|17=1|150=8|39=8|103=2|55=INTC|54=1|38=300|44=23.45|151=0|14=0|6=0|58=port fault 2")
    ([])
    ∷ faulted (canceled_message 9 100 (codes "U")) 2
    ∷ []

-- port 1 faults with an order on it, which can't be cancelled then; an order on port 2 is accepted and filled
abbrev pub filled_beside_a_faulted_port : OrderHistory
filled_beside_a_faulted_port =
    heard_by_client_on 2 3 (executed_message 2 300 234500 7)
    (message (codes "35=8|37=2|11=A1|17=5|150=F|39=2|55=INTC|54=1|38=300|44=23.45|32=300|31=23.45|151=0|14=300|6=23.45")
    ∷ [])
    ∷ heard_by_client_on 2 3 (accepted_message 2 300 (codes "INTC    ") (codes "L"))
    (message (codes "35=8|37=2|11=A1|17=4|150=0|39=0|55=INTC|54=1|38=300|44=23.45|151=300|14=0|6=0")
    ∷ [])
    ∷ asked_by 3 Up (codes "35=D|11=A1|54=1|55=INTC|38=300|40=2|44=23.45|59=0|528=P")
    (codes "35=8|37=2|11=A1|17=3|150=A|39=A|55=INTC|54=1|38=300|44=23.45|151=300|14=0|6=0")
    (enter_message 2 300 ∷ [])
    ∷ asked_by 1 (Faulted 2) (codes "35=F|41=A1|11=A2")
    (codes "35=9|37=1|11=A2|41=A1|39=0|434=1|102=2|58=port fault 2")
    ([])
    ∷ faulted (canceled_message 9 100 (codes "U")) 2
    ∷ entered_and_accepted

-- port 2 faults by a token of port 1, whose order is accepted after it
abbrev pub accepted_beside_a_faulted_port : OrderHistory
accepted_beside_a_faulted_port =
    heard_by_client (accepted_message 1 300 (codes "INTC    ") (codes "L"))
    (message (codes "35=8|37=1|11=A1|17=2|150=0|39=0|55=INTC|54=1|38=300|44=23.45|151=300|14=0|6=0")
    ∷ [])
    ∷ faulted_on 2 (accepted_message 1 300 (codes "INTC    ") (codes "L")) 2
    ∷ only_entered

-- two clients have the same ClOrdID, each its own; the first then cancels an order that isn't one
abbrev pub two_clients : OrderHistory
two_clients =
    asked_turn (codes "35=F|41=Q|11=A9")
    (codes "35=9|37=NONE|11=A9|41=Q|39=8|434=1|102=1|58=unknown order")
    ([])
    ∷ asked_by 2 Up (codes "35=D|11=A1|54=1|55=INTC|38=300|40=2|44=23.45|59=0|528=P")
    (codes "35=8|37=2|11=A1|17=2|150=A|39=A|55=INTC|54=1|38=300|44=23.45|151=300|14=0|6=0")
    (enter_message 2 300 ∷ [])
    ∷ only_entered

-- a cancel under the id of the pending replace is refused, and the replace stays pending
abbrev pub asked_under_a_pending_id : OrderHistory
asked_under_a_pending_id =
    asked_turn (codes "35=F|41=A1|11=A2")
    (codes "35=9|37=1|11=A2|41=A1|39=E|434=1|102=6|58=duplicate ClOrdID")
    ([])
    ∷ replace_pending

-- sold, sold short, and sold short as exempt
abbrev pub sold_in_each_way : OrderHistory
sold_in_each_way =
    asked_turn (codes "35=D|11=A3|54=6|55=INTC|38=300|40=2|44=23.45|528=P")
    (codes "35=8|37=3|11=A3|17=3|150=A|39=A|55=INTC|54=6|38=300|44=23.45|151=300|14=0|6=0")
    (enter_as (codes "E") 3 300 ∷ [])
    ∷ asked_turn (codes "35=D|11=A2|54=5|55=INTC|38=300|40=2|44=23.45|528=P")
    (codes "35=8|37=2|11=A2|17=2|150=A|39=A|55=INTC|54=5|38=300|44=23.45|151=300|14=0|6=0")
    (enter_as (codes "T") 2 300 ∷ [])
    ∷ asked_turn (codes "35=D|11=A1|54=2|55=INTC|38=300|40=2|44=23.45|528=P")
    (codes "35=8|37=1|11=A1|17=1|150=A|39=A|55=INTC|54=2|38=300|44=23.45|151=300|14=0|6=0")
    (enter_as (codes "S") 1 300 ∷ [])
    ∷ []

-- the trade of the first token is broken while the next replace is pending
abbrev pub broken_after_it_is_replaced : OrderHistory
broken_after_it_is_replaced =
    heard_by_client (broken_message 1 7 (codes "E"))
    (message (codes "35=8|37=1|11=A2|17=7|19=4|150=H|39=E|55=INTC|54=1|38=400|44=23.45|151=400|14=0|6=0|58=E")
    ∷ [])
    ∷ replaced_after_a_trade

-- a replaced order that is dead at once
abbrev pub dead_as_it_is_replaced : OrderHistory
dead_as_it_is_replaced =
    heard_by_client (replaced_message 2 1 500 (codes "D"))
    (message (codes "35=8|37=1|11=A2|41=A1|17=4|150=5|39=0|55=INTC|54=1|38=500|44=23.45|151=500|14=0|6=0")
    ∷ message (codes "35=8|37=1|11=A2|17=5|150=4|39=4|55=INTC|54=1|38=500|44=23.45|151=0|14=0|6=0")
    ∷ [])
    ∷ replace_pending

-- the order after a cancel, which had no token, has the next one
abbrev pub ordered_after_a_cancel : OrderHistory
ordered_after_a_cancel =
    asked_turn (codes "35=D|11=A3|54=1|55=INTC|38=300|40=2|44=23.45|528=P")
    (codes "35=8|37=2|11=A3|17=5|150=A|39=A|55=INTC|54=1|38=300|44=23.45|151=300|14=0|6=0")
    (enter_message 2 300 ∷ [])
    ∷ filled_while_cancel_pending

-- a replace of the first client is answered, after the second gave its cancel the same id
abbrev pub two_clients_with_the_same_ids : OrderHistory
two_clients_with_the_same_ids =
    heard_by_client (replaced_message 2 1 500 (codes "L"))
    (message (codes "35=8|37=1|11=A2|41=A1|17=7|150=5|39=0|55=INTC|54=1|38=500|44=23.45|151=500|14=0|6=0")
    ∷ [])
    ∷ asked_by 2 Up (codes "35=F|41=A3|11=A2")
    (codes "35=8|37=2|11=A2|41=A3|17=6|150=6|39=6|55=INTC|54=1|38=300|44=23.45|151=300|14=0|6=0")
    (cancel_message 3 ∷ cancel_message 4 ∷ [])
    ∷ asked_by 2 Up (codes "35=G|41=A1|11=A3|38=400|40=2|44=23.45")
    (codes "35=8|37=2|11=A3|41=A1|17=5|150=E|39=E|55=INTC|54=1|38=300|44=23.45|151=300|14=0|6=0")
    (replace_message 3 4 400 ∷ [])
    ∷ asked_by 2 Up (codes "35=D|11=A1|54=1|55=INTC|38=300|40=2|44=23.45|59=0|528=P")
    (codes "35=8|37=2|11=A1|17=4|150=A|39=A|55=INTC|54=1|38=300|44=23.45|151=300|14=0|6=0")
    (enter_message 3 300 ∷ [])
    ∷ replace_pending

-- a cancel under the ClOrdID of the pending replace that it names: its reject has its own 41, and answers nothing
abbrev pub cancelled_under_a_pending_id : OrderHistory
cancelled_under_a_pending_id =
    heard_by_client (replaced_message 2 1 500 (codes "L"))
    (message (codes "35=8|37=1|11=A2|41=A1|17=4|150=5|39=0|55=INTC|54=1|38=500|44=23.45|151=500|14=0|6=0")
    ∷ [])
    ∷ asked_turn (codes "35=F|41=A2|11=A2")
    (codes "35=9|37=1|11=A2|41=A2|39=E|434=1|102=6|58=duplicate ClOrdID")
    ([])
    ∷ replace_pending

-- at prices that the market says, with two trades; after it is cancelled both are broken, and 38 stays
abbrev pub at_other_prices : OrderHistory
at_other_prices =
    asked_turn (codes "35=F|41=A2|11=A3")
    (codes "35=9|37=1|11=A3|41=A2|39=4|434=1|102=0|58=too late")
    []
    ∷ heard_by_client (broken_message 1 8 (codes "E"))
    (message (codes "35=8|37=1|11=A2|17=9|19=6|150=H|39=4|55=INTC|54=1|38=400|44=25.5|151=0|14=0|6=0|58=E")
    ∷ [])
    ∷ heard_by_client (broken_message 2 7 (codes "E"))
    (message (codes "35=8|37=1|11=A2|17=8|19=5|150=H|39=4|55=INTC|54=1|38=400|44=25.5|151=0|14=50|6=25|58=E")
    ∷ [])
    ∷ heard_by_client (canceled_message 2 250 (codes "U"))
    (message (codes "35=8|37=1|11=A2|17=7|150=4|39=4|55=INTC|54=1|38=400|44=25.5|151=0|14=150|6=25.3333|58=U")
    ∷ [])
    ∷ heard_by_client (executed_message 2 50 250000 8)
    (message (codes "35=8|37=1|11=A2|17=6|150=F|39=1|55=INTC|54=1|38=400|44=25.5|32=50|31=25|151=250|14=150|6=25.3333")
    ∷ [])
    ∷ heard_by_client (executed_message 2 100 255000 7)
    (message (codes "35=8|37=1|11=A2|17=5|150=F|39=1|55=INTC|54=1|38=400|44=25.5|32=100|31=25.5|151=300|14=100|6=25.5")
    ∷ [])
    ∷ heard_by_client (replaced_at 255000 2 1 400)
    (message (codes "35=8|37=1|11=A2|41=A1|17=4|150=5|39=0|55=INTC|54=1|38=400|44=25.5|151=400|14=0|6=0")
    ∷ [])
    ∷ asked_turn (codes "35=G|41=A1|11=A2|38=500|40=2|44=23.45")
    (codes "35=8|37=1|11=A2|41=A1|17=3|150=E|39=E|55=INTC|54=1|38=300|44=24|151=300|14=0|6=0")
    (replace_message 1 2 500 ∷ [])
    ∷ heard_by_client (accepted_at 240000 1 300)
    (message (codes "35=8|37=1|11=A1|17=2|150=0|39=0|55=INTC|54=1|38=300|44=24|151=300|14=0|6=0")
    ∷ [])
    ∷ only_entered

-- it is refused, and requests on it then
abbrev pub asked_after_it_is_refused : OrderHistory
asked_after_it_is_refused =
    asked_turn (codes "35=G|41=A1|11=A1|38=1|40=2|44=1")
    (codes "35=9|37=1|11=A1|41=A1|39=8|434=2|102=6|58=duplicate ClOrdID")
    []
    ∷ asked_turn (codes "35=F|41=A1|11=A2")
    (codes "35=9|37=1|11=A2|41=A1|39=8|434=1|102=0|58=too late")
    []
    ∷ heard_by_client (rejected_message 1 (codes "T"))
    (message (codes "35=8|37=1|11=A1|17=2|150=8|39=8|103=99|55=INTC|54=1|38=300|44=23.45|151=0|14=0|6=0|58=T")
    ∷ [])
    ∷ only_entered

-- of two trades of equal size and price the second is broken
abbrev pub broken_among_equals : OrderHistory
broken_among_equals =
    heard_by_client (broken_message 1 8 (codes "E"))
    (message (codes "35=8|37=1|11=A1|17=5|19=4|150=H|39=1|55=INTC|54=1|38=200|44=23.45|151=100|14=100|6=23.45|58=E")
    ∷ [])
    ∷ heard_by_client (executed_message 1 100 234500 8)
    (message (codes "35=8|37=1|11=A1|17=4|150=F|39=1|55=INTC|54=1|38=300|44=23.45|32=100|31=23.45|151=100|14=200|6=23.45")
    ∷ [])
    ∷ heard_by_client (executed_message 1 100 234500 7)
    (message (codes "35=8|37=1|11=A1|17=3|150=F|39=1|55=INTC|54=1|38=300|44=23.45|32=100|31=23.45|151=200|14=100|6=23.45")
    ∷ [])
    ∷ entered_and_accepted

-- System Events tell nobody anything: the start of the day
abbrev pub day_started : OrderHistory
day_started =
    heard_by_client (system_message (codes "S")) []
    ∷ []

-- and its end
abbrev pub day_ended : OrderHistory
day_ended =
    heard_by_client (system_message (codes "E")) []
    ∷ entered_and_accepted

-- a Priority Update is passed over, whatever its bytes
abbrev pub priority_updated : OrderHistory
priority_updated =
    heard_by_client (codes "T") []
    ∷ entered_and_accepted

-- the market has the cancel, which changes nothing; then it cancels what is open, which answers it
abbrev pub cancel_at_the_market : OrderHistory
cancel_at_the_market =
    heard_by_client (cancel_pending_message 1) []
    ∷ asked_turn (codes "35=F|41=A1|11=A2")
    (codes "35=8|37=1|11=A2|41=A1|17=3|150=6|39=6|55=INTC|54=1|38=300|44=23.45|151=300|14=0|6=0")
    (cancel_message 1 ∷ [])
    ∷ entered_and_accepted

abbrev pub order_is_cancelled : OrderHistory
order_is_cancelled =
    heard_by_client (canceled_message 1 300 (codes "U"))
    (message (codes "35=8|37=1|11=A2|41=A1|17=4|150=4|39=4|55=INTC|54=1|38=300|44=23.45|151=0|14=0|6=0|58=U")
    ∷ [])
    ∷ cancel_at_the_market

-- a second replace, which names the id that the first one named, goes from the first one's token
abbrev pub replace_asked_twice : OrderHistory
replace_asked_twice =
    asked_turn (codes "35=G|41=A1|11=A3|38=400|40=2|44=23.45")
    (codes "35=8|37=1|11=A3|41=A1|17=4|150=E|39=E|55=INTC|54=1|38=300|44=23.45|151=300|14=0|6=0")
    (replace_message 2 3 400 ∷ [])
    ∷ replace_pending

-- A fill or kill order is immediate, and its minimum is its total whatever 110 says. A replace can't ask it.
abbrev pub fill_or_kill : OrderHistory
fill_or_kill =
    heard_by_client (executed_message 1 300 234500 7)
    (message (codes "35=8|37=1|11=A1|17=3|150=F|39=2|55=INTC|54=1|38=300|44=23.45|32=300|31=23.45|151=0|14=300|6=23.45")
    ∷ [])
    ∷ asked_turn (codes "35=G|41=A1|11=A2|38=500|40=2|44=23.45|59=4")
    (codes "35=9|37=1|11=A2|41=A1|39=0|434=2|102=99|58=time in force")
    []
    ∷ heard_by_client (accepted_message 1 300 (codes "INTC    ") (codes "L"))
    (message (codes "35=8|37=1|11=A1|17=2|150=0|39=0|55=INTC|54=1|38=300|44=23.45|151=300|14=0|6=0")
    ∷ [])
    ∷ asked_turn (codes "35=D|11=A1|54=1|55=INTC|38=300|40=2|44=23.45|59=4|110=100|528=P")
    (codes "35=8|37=1|11=A1|17=1|150=A|39=A|55=INTC|54=1|38=300|44=23.45|151=300|14=0|6=0")
    (enter_whole_message 1 300 ∷ [])
    ∷ []
